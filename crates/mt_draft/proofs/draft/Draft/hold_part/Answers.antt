use Rattle.std.proofs.Common.{◌+◌, ◌++◌, length, take, drop, ap, ◌∙◌, arith}
use Rattle.std.proofs.lemmas.Result.{on_ok_weaker}
use Rattle.mt_disk.specs.Files.{contents}
use Rattle.mt_draft.specs.Drafts.{DraftState}
use Rattle.mt_draft.proofs.draft.Draft.hold_part.Goals as goal

pub read_more-requires-clause-room : goal.read_more-requires-clause-room
read_more-requires-clause-room g c =
    omega (arith, c.requires.room, ap (λ (s : DraftState). s.written) c.self.view_is, ap (λ (s : DraftState). length s.held) c.self.view_is, ap (λ (s : DraftState). s.limit) c.self.view_is)

pub invariant_of-self : goal.invariant_of-self
invariant_of-self g c =
    omega (arith, c.requires.room, c.read_more.ensures.bounded, ap (λ (s : DraftState). s.written) c.self.view_is, ap (λ (s : DraftState). length s.held) c.self.view_is, ap (λ (s : DraftState). s.limit) c.self.view_is)

pub returns-clause-held : goal.returns-clause-held
returns-clause-held g c = on_ok_weaker c.read_more.result (λ held files is. held files is ∙ ap (λ (s : DraftState). s.held ++ take c.args.count (drop c.args.at (contents files c.args.file))) c.self.view_is) c.read_more.ensures.held

pub returns-clause-next : goal.returns-clause-next
returns-clause-next g c = on_ok_weaker c.read_more.result (λ next. next ∙ ap (λ (s : DraftState). length s.held + c.args.count) c.self.view_is) c.read_more.ensures.next

pub returns-clause-keeps : goal.returns-clause-keeps
returns-clause-keeps g c =
    on_ok_weaker c.read_more.result (λ next. (ap (λ (s : DraftState). s.file) c.self.view_is, ap (λ (s : DraftState). s.written) c.self.view_is, ap (λ (s : DraftState). s.limit) c.self.view_is)) c.read_more.ensures.next
