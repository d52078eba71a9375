use Rattle.program.proofs.clause_map.found.Goals as goal

pub returns-in-Some-get : goal.returns-in-Some-get
returns-in-Some-get c =
    rw (← c.in-Some.ensures.value, ← c.as_str.ensures, ← c.in-Some-get.ensures.value) c.as_slice.ensures.value
