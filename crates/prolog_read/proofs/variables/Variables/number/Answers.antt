use Rattle.std.proofs.Common.{◌≡◌, List, ℕ, [], ◌∷◌, ◌++◌, None, string_bytes, sym, ap, ◌∙◌}
use Rattle.std.specs.BTreeMap.{get_by_text}
use Rattle.std.proofs.lemmas.Map.Text.{btree_map_updates_text}
use Rattle.prolog_read.specs.Variables.{lookup}
use Rattle.prolog_read.specs.declared.variables.Variables.{Variables}
use Rattle.prolog_read.proofs.Indexing.{indexed_more}
use Rattle.prolog_read.proofs.variables.Variables.number.Goals as goal

-- the new name is in the index and behind the other names
pub returns-clause-index : goal.returns-clause-index
returns-clause-index c =
    let word = c.args.word.now in
    let number = c.in_ok-number.number in
    let key : string_bytes c.in_ok-from_str.field-0 ≡ word = c.in_ok-from_str.ensures.ok in
    let sets = btree_map_updates_text (string_bytes c.in_ok-from_str.field-0) c.take_next-2.new.self.index c.insert.new.self _ c.in_ok-insert.ensures.updates in
    let same = c.in_ok-number.ensures.1 in
    let before : (v : List ℕ) → get_by_text c.take_next-2.new.self.index v ≡ lookup v c.take_next-2.new.self.names =
    λ v. ap (λ (s : Variables). get_by_text s.index v) same ∙ c.requires.each v ∙ ap (λ (s : Variables). lookup v s.names) (sym same) in
    let none : get_by_text c.take_next-2.new.self.index word ≡ None = ap (λ (s : Variables). get_by_text s.index word) same ∙ sym c.in_default.ensures.value in
    let name = ap (λ (x : List ℕ). c.take_next-2.new.self.names ++ (x, number) ∷ []) c.in_ok-new.ensures in
    record {
      each = λ v.
          indexed_more c.take_next-2.new.self.index c.insert.new.self c.take_next-2.new.self.names word number before none (rw key at sets) v
          ∙ ap (lookup v) (sym (c.in_ok-push.ensures.ok ∙ name));
    }
