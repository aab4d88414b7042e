use Rattle.std.proofs.Common.{[], ap, sym, ◌∙◌}
use Rattle.mt_model.specs.CommandStep.{allowed}
use Rattle.mt_jobs.specs.Shown.{state_of}
use Rattle.mt_account.proofs.Commands.{delete_allowed, directory_allowed, link_allowed, put_allowed, size_of}
use Rattle.mt_account.proofs.rows.change.Goals as goal

pub put_object-requires : goal.put_object-requires
put_object-requires c = let a = c.in-Put in
    put_allowed (state_of c.args.count c.args.tree.now []) a.path a.content_type a.body a.durability a.metadata a.moment (ap (allowed size_of (state_of c.args.count c.args.tree.now [])) (sym a.is) ∙ c.requires.allowed)

pub make_directory-requires : goal.make_directory-requires
make_directory-requires c = let a = c.in-MakeDirectory in
    directory_allowed (state_of c.args.count c.args.tree.now []) a.path a.moment (ap (allowed size_of (state_of c.args.count c.args.tree.now [])) (sym a.is) ∙ c.requires.allowed)

pub link-requires : goal.link-requires
link-requires c = let a = c.in-Link in
    link_allowed (state_of c.args.count c.args.tree.now []) a.path a.source a.moment (ap (allowed size_of (state_of c.args.count c.args.tree.now [])) (sym a.is) ∙ c.requires.allowed)

pub remove-requires : goal.remove-requires
remove-requires c = let a = c.in-Delete in
    delete_allowed (state_of c.args.count c.args.tree.now []) a.path a.moment (ap (allowed size_of (state_of c.args.count c.args.tree.now [])) (sym a.is) ∙ c.requires.allowed)
