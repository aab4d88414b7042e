use Rattle.std.proofs.Common.{◌++◌, length, ap, ◌∙◌, arith}
use Rattle.std.proofs.lemmas.Result.{on_ok_weaker}
use Rattle.mt_log.specs.LogImage.{record_of}
use Rattle.mt_draft.specs.Drafts.{DraftState}
use Rattle.mt_draft.proofs.draft.Draft.hold.Goals as goal

pub invariant_of-self : goal.invariant_of-self
invariant_of-self c =
    omega (arith, c.requires.room, c.push_record.ensures.bounded, ap (λ (s : DraftState). s.written) c.self.view_is, ap (λ (s : DraftState). length s.held) c.self.view_is, ap (λ (s : DraftState). s.limit) c.self.view_is)

pub returns : goal.returns
returns c =
    let was = c.self.inside in
    let p = c.args.payload.now in
    record {
      held = on_ok_weaker c.push_record.result (λ added.
          (λ i. record { file = was.file; written = was.written; held = added i; limit = was.limit })
          ∙ ap (λ (s : DraftState). record { file = s.file; written = s.written; held = s.held ++ record_of p; limit = s.limit }) c.self.view_is) c.push_record.ensures.added;
    }
