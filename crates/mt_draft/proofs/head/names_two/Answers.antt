-- The first byte of Head.
use Rattle.std.proofs.Common.{arith, get_or}
use Rattle.std.proofs.lemmas.Bool.{eqb-false, eqb-true}
use Rattle.std.proofs.lemmas.Option.{MatchOption-at_some}
use Rattle.mt_disk.specs.declared.disk.FileNo.TheVariants.{One}
use Rattle.mt_draft.proofs.Named.{chosen_some, firm_unless_two, missing_if_two}
use Rattle.mt_draft.proofs.head.names_two.Goals as goal

pub read-requires : goal.read-requires
read-requires g c files is = let some = chosen_some files One (c.requires files is) in omega arith

pub returns-clause-firm : goal.returns-clause-firm
returns-clause-firm g c files is named =
    firm_unless_two files c.read.new.into (chosen_some files One (c.requires files is)) (MatchOption-at_some _ _ _ is c.in_ok-read.ensures.bytes) (eqb-false (get_or c.read.new.into 0 0) 2 named)

pub returns-clause-missing : goal.returns-clause-missing
returns-clause-missing g c files is named =
    missing_if_two files c.read.new.into (c.requires files is) (chosen_some files One (c.requires files is)) (MatchOption-at_some _ _ _ is c.in_ok-read.ensures.bytes) (eqb-true (get_or c.read.new.into 0 0) 2 named)
