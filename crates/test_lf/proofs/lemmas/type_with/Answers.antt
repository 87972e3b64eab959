use Rattle.test_lf.proofs.lemmas.type_with.Goals as goal

pub type_of-requires : goal.type_of-requires
type_of-requires c = (tt, c.in-Ok-true.ensures.holds c.in-Ok-true.field-0-test)
