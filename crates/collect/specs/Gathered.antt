-- What a bag holds.
use Rattle.std.specs.Prelude.{◌≡◌, ℕ, zero, suc, List, refl}
use Rattle.std.specs.Coded.{Coded, code_by, coded×, coded_ℕ, coded_list}
use Rattle.term_core.specs.Tree.{Tree}
use Rattle.term_core.specs.Flat.{tree_code}
use Rattle.collect.specs.declared.bag.BagKind.{BagKind}
use Rattle.collect.specs.declared.bag.BagKind.TheVariants.{Findall, Bagof, Setof}

pub record Gathered : Type 0 where
  pub kind : BagKind
  -- the copies, each with its variables numbered from 0 by first occurrence
  pub solutions : List Tree

-- ---- kinds as numbers

abbrev pub kind_numbers : BagKind → ℕ × ℕ
kind_numbers Findall = (0, 0)
kind_numbers (Bagof n) = (1, n)
kind_numbers (Setof n) = (2, n)

abbrev pub kind_of : (kind witness : ℕ) → BagKind
kind_of zero n = Findall
kind_of (suc zero) n = Bagof n
kind_of (suc (suc k)) n = Setof n

abbrev pub kind_back : (k : BagKind) → kind_of (kind_numbers k).0 (kind_numbers k).1 ≡ k
kind_back Findall = refl
kind_back (Bagof n) = refl
kind_back (Setof n) = refl

abbrev pub coded_kind : Coded BagKind
coded_kind = code_by (ℕ × ℕ) (coded× coded_ℕ coded_ℕ) kind_numbers (λ p. kind_of p.0 p.1) kind_back

abbrev pub coded_gathered : Coded Gathered
coded_gathered =
    code_by (BagKind × List Tree) (coded× coded_kind (coded_list tree_code)) (λ g. (g.kind, g.solutions)) (λ p. record { kind = p.0; solutions = p.1 }) (λ _. refl)
