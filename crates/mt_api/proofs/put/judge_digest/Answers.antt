use Rattle.std.proofs.Common.{ℕ, List, length, Some, sym, ap, ◌∙◌, subst}
use Rattle.md5.specs.Md5.{md5}
use Rattle.mt_answer.specs.Answer.{Answer}
use Rattle.mt_answer.specs.Judging.{len_of, refusal_of}
use Rattle.mt_body.specs.Stored.{pieces_that_fit}
use Rattle.mt_opening.specs.History.{Bytes}
use Rattle.mt_opening.proofs.Held.{holding_in}
use Rattle.mt_model.specs.Rows.{Rows}
use Rattle.mt_types.specs.declared.body.Body.{Body}
use Rattle.mt_api.specs.Answered.{used}
use Rattle.mt_api.specs.Steps.{Settles, refusal}
use Rattle.mt_api.proofs.Ends.{leaves_same}
use Rattle.mt_api.proofs.Puts.{stored_adds, stored_refused, whole_next, whole_ready}
use Rattle.mt_api.proofs.put.judge_digest.Goals as goal

pub add-requires-clause-adds : goal.add-requires-clause-adds
add-requires-clause-adds g c = stored_adds c.args.engine.now c.args.call c.requires.stores

pub returns-in-Some-clause-settles : goal.returns-in-Some-clause-settles
returns-in-Some-clause-settles g c base h qs asked bytes e w =
    let d = g.D.Disk in
    let engine = c.args.engine.now in
    let call = c.args.call in
    let is = ap (λ (x : List ℕ). refusal engine call (Some x)) (sym (w.stored.digest ∙ ap md5 w.reads))
    ∙ ap (λ (rows : Rows Body). refusal_of len_of call.request rows call.conditions (Some c.args.body.md5)) (sym c.tree.ensures.rows) ∙ sym c.refusal_of.ensures ∙ c.in-Some.is in
    let answer = stored_refused engine base h qs (holding_in (d.seen c.args.disk.now) engine base h c.args.run qs w.writing) asked call e c.requires.stores bytes c.in-Some.refused is in (
      h,
      subst (λ (a : Answer Bytes). Settles c.refuse_in.result a (used engine) base h (d.seen c.refuse_in.new.disk) c.refuse_in.new.engine h) (sym answer)
          (c.refuse_in.ensures.settles base h qs (used engine) (pieces_that_fit engine.log.limit (used engine) (length bytes)) w.writing (whole_next (d.seen c.args.disk.now) engine c.args.run base h qs c.args.body bytes w)),
      leaves_same d.moment d.left_since c.args.disk.now c.refuse_in.new.disk base h (c.refuse_in.ensures.any_moment base h qs w.writing),
    )

pub returns-in-None-clause-settles : goal.returns-in-None-clause-settles
returns-in-None-clause-settles g c base h qs asked bytes e w =
    let d = g.D.Disk in
    let engine = c.args.engine.now in
    let call = c.args.call in
    let is = ap (λ (x : List ℕ). refusal engine call (Some x)) (sym (w.stored.digest ∙ ap md5 w.reads))
    ∙ ap (λ (rows : Rows Body). refusal_of len_of call.request rows call.conditions (Some c.args.body.md5)) (sym c.tree.ensures.rows) ∙ sym c.refusal_of.ensures ∙ c.in-None.is in
    c.add.ensures.settles base h qs asked bytes e (whole_ready (d.seen c.args.disk.now) engine c.args.run base h qs call c.args.body bytes c.requires.stores w is)
