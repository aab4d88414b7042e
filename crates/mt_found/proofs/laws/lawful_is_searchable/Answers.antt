use Rattle.std.proofs.Common.{ℕ, List}
use Rattle.mt_types.specs.declared.body.Body.{Body}
use Rattle.mt_found.proofs.LawfulRows.{lawful_searchable}
use Rattle.mt_found.proofs.laws.lawful_is_searchable.Goals as goal

pub returns-clause-references : goal.returns-clause-references
returns-clause-references c = lawful_searchable Body

pub returns-clause-bytes : goal.returns-clause-bytes
returns-clause-bytes c = lawful_searchable (List ℕ)
