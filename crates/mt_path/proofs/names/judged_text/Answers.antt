use Rattle.std.proofs.Common.{[], Bor, List, ℕ}
use Rattle.mt_path.proofs.Bounded.{text-judged}
use Rattle.mt_path.proofs.names.judged_text.Goals as goal

abbrev none : Bor (List ℕ)
none = record { ref_ptr = (0, 0); now = [] }

pub returns : goal.returns
returns c = text-judged c.args.login.now c.args.pieces.now none c.in_ok-names.names.items c.is_own.result c.judged.result c.in-len1-up.len_at_least c.in_ok-names.ensures.items c.in_ok-names.ensures.short c.is_own.ensures c.judged.ensures
