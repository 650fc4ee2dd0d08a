use Rattle.zl_value.proofs.RatioLemmas.{IsRead}
use Rattle.zl_value.proofs.ratio_text.short_number.Given as goal

abbrev pub invariant-loop-c : goal.invariant-loop-c
invariant-loop-c l = IsRead l.text l.c-index l.number
