-- A proof that computes with the definitions of this crate says `unfolding whole_open`. Assumes nothing.
use Rattle.whole.specs.Plain
use Rattle.whole.specs.Whole

unfoldable pub whole_open : Unit {0}
unfolding Plain.all_to Plain.all_below Plain.only_if Whole.in_range Whole.within Whole.eq_z Whole.apply Whole.applied Whole.is_true Whole.natural
    Whole.nat Whole.between
whole_open = tt
