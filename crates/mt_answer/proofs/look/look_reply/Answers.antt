use Rattle.std.proofs.Common.{rules, ◌≡◌, Ok}
use Rattle.mt_store.specs.Decisions.{read_decision}
use Rattle.mt_store.specs.declared.reads.Found.TheVariants as found
use Rattle.mt_answer.proofs.Listable.{found_there}
use Rattle.mt_answer.proofs.look.look_reply.Goals as goal

pub range_reply-requires-clause-number : goal.range_reply-requires-clause-number
range_reply-requires-clause-number c =
    let is : Ok (found.Object c.in-Ok-Object.object.now) ≡ read_decision c.args.tree.now c.args.path.now c.args.conditions.now = search rules in
    (found_there c.args.tree.now c.args.path.now c.args.conditions.now (Ok (found.Object c.in-Ok-Object.object.now)) c.requires.rows is).1

pub range_reply-requires-clause-mtime : goal.range_reply-requires-clause-mtime
range_reply-requires-clause-mtime c =
    let is : Ok (found.Object c.in-Ok-Object.object.now) ≡ read_decision c.args.tree.now c.args.path.now c.args.conditions.now = search rules in
    (found_there c.args.tree.now c.args.path.now c.args.conditions.now (Ok (found.Object c.in-Ok-Object.object.now)) c.requires.rows is).0

pub unchanged_reply-requires-clause-number : goal.unchanged_reply-requires-clause-number
unchanged_reply-requires-clause-number c =
    let is : Ok (found.NotModified c.in-Ok-NotModified.object.now) ≡ read_decision c.args.tree.now c.args.path.now c.args.conditions.now = search rules in
    (found_there c.args.tree.now c.args.path.now c.args.conditions.now (Ok (found.NotModified c.in-Ok-NotModified.object.now)) c.requires.rows is).1

pub unchanged_reply-requires-clause-mtime : goal.unchanged_reply-requires-clause-mtime
unchanged_reply-requires-clause-mtime c =
    let is : Ok (found.NotModified c.in-Ok-NotModified.object.now) ≡ read_decision c.args.tree.now c.args.path.now c.args.conditions.now = search rules in
    (found_there c.args.tree.now c.args.path.now c.args.conditions.now (Ok (found.NotModified c.in-Ok-NotModified.object.now)) c.requires.rows is).0
