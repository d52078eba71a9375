-- The door in memory as a value, and what its calls do beyond the trait's clauses.
use Rattle.std.specs.Prelude.{◌≡◌, ◌+◌, ◌-◌, ◌↔◌, ℕ, List, Contains, refl}
use Rattle.std.specs.Coded.{Coded, code_by, coded×, coded_ℕ, coded_list}
use Rattle.outside.specs.declared.door.Accepted.{Accepted}
use Rattle.outside.specs.declared.door.Accepted.TheVariants.{Wire, Closed, Failed}
use Rattle.outside.specs.Faults.{one_more}

-- a door in memory: the wires to come, those handed back, how many are out, the numbers of the accepts
-- that fail, how many accepts were made and how many failed
pub record DoorState (W : Type 0) : Type 0 where
  pub coming : List W
  pub returned : List W
  pub out : ℕ
  pub fails : List ℕ
  pub accepts : ℕ
  pub faults : ℕ

module _ {W : Type 0} where
  -- a door is stored as its fields
  abbrev pub door_code : Coded W → Coded (DoorState W)
  door_code w =
      code_by (List W × (List W × (ℕ × (List ℕ × (ℕ × ℕ)))))
      (coded× (coded_list w) (coded× (coded_list w) (coded× coded_ℕ (coded× (coded_list coded_ℕ) (coded× coded_ℕ coded_ℕ)))))
      (λ d. (d.coming, (d.returned, (d.out, (d.fails, (d.accepts, d.faults))))))
      (λ p. record { coming = p.0; returned = p.1.0; out = p.1.1.0; fails = p.1.1.1.0; accepts = p.1.1.1.1.0; faults = p.1.1.1.1.1 })
      (λ _. refl)

  -- how many wires are out once an accept has given this answer
  abbrev pub out_after : ℕ → Accepted W → ℕ
  out_after out (Wire w) = out + 1
  out_after out Closed = out
  out_after out Failed = out

  -- An accept is counted. It fails exactly where its number is told, and a wire that it gives is out.
  pub record AcceptsInMemory (old : DoorState W) (result : Accepted W) (new : DoorState W) : Type 0 where
    pub counted : new.accepts ≡ one_more old.accepts
    pub fails : (result ≡ Failed) ↔ Contains old.fails new.accepts
    pub out : new.out ≡ out_after old.out result
    pub same_fails : new.fails ≡ old.fails

  -- A closing takes one wire that was out.
  pub record ClosesInMemory (old new : DoorState W) : Type 0 where
    pub out : new.out ≡ old.out - 1
    pub accepts : new.accepts ≡ old.accepts
    pub same_fails : new.fails ≡ old.fails
