use Rattle.mt_asked.proofs.Asking.{understood}
use Rattle.mt_asked.proofs.Heads.{head_read}
use Rattle.mt_asked.proofs.Refusing.{refused}
use Rattle.mt_asked.proofs.Standing.{head_stands}
use Rattle.mt_asked.proofs.laws.asks_are_understood.Goals as goal

pub returns-clause-read : goal.returns-clause-read
returns-clause-read c = head_read

pub returns-clause-stands : goal.returns-clause-stands
returns-clause-stands c = head_stands

pub returns-clause-asked : goal.returns-clause-asked
returns-clause-asked c = understood

pub returns-clause-refused : goal.returns-clause-refused
returns-clause-refused c = refused
