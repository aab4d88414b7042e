use Rattle.mt_map.proofs.Map.{delete_changes, is_there, link_changes, make_directory_changes, put_changes}
use Rattle.mt_map.proofs.Others.{only_its_own}
use Rattle.mt_map.proofs.laws.rows_are_a_map.Goals as goal

pub returns-clause-put : goal.returns-clause-put
returns-clause-put c = put_changes

pub returns-clause-there : goal.returns-clause-there
returns-clause-there c = is_there

pub returns-clause-directory : goal.returns-clause-directory
returns-clause-directory c = make_directory_changes

pub returns-clause-link : goal.returns-clause-link
returns-clause-link c = link_changes

pub returns-clause-delete : goal.returns-clause-delete
returns-clause-delete c = delete_changes

pub returns-clause-others : goal.returns-clause-others
returns-clause-others c = only_its_own
