use Rattle.std.proofs.Common.{◌≡◌, ◌+◌, ◌++◌, [], ℕ, List, length, Some, refl, sym, ap, ◌∙◌, subst}
use Rattle.md5.specs.Md5.{md5}
use Rattle.mt_answer.specs.Answer.{Answer}
use Rattle.mt_body.specs.Stored.{pieces_that_fit}
use Rattle.mt_opening.specs.History.{Bytes}
use Rattle.mt_opening.proofs.Held.{holding_in}
use Rattle.mt_error.specs.declared.refused.Refused.{Refused}
use Rattle.mt_http.specs.BodyReading.{body_left}
use Rattle.mt_reply.specs.Replies.{error_reply}
use Rattle.mt_api.specs.Answered.{used}
use Rattle.mt_api.specs.Steps.{Settles, refusal, without_room}
use Rattle.mt_api.specs.declared.answered.Answered.TheVariants as answered
use Rattle.mt_api.specs.declared.bodies.BodyEnd.TheVariants as body_end
use Rattle.mt_api.proofs.Ends.{ended_not, ended_over, held_ended, held_sends, leaves_same, settled_not, settled_over}
use Rattle.mt_api.proofs.Lefts.{all_after, front_after, read_as, read_well}
use Rattle.mt_api.proofs.Puts.{ended_goes, lacking_full, lacking_next, settles_goes, stays_left, without_room_refused}
use Rattle.mt_api.proofs.put.refuse_for_room.Goals as goal

pub returns-in-Whole-clause-goes : goal.returns-in-Whole-clause-goes
returns-in-Whole-clause-goes g c base h qs asked left bytes e w holds took =
    let d = g.D.Disk in
    let engine = c.args.engine.now in
    let call = c.args.call in
    let drains = c.in-Whole.ensures.drains in
    let total = bytes ++ drains.0 in
    let all = all_after left (body_left c.args.stream.now.framer (g.S.Source.left c.args.stream.now.source.now)) bytes drains.0 took drains.1 in
    let digest = c.finalize.ensures total (drains.2 bytes holds) in
    let why = c.refusal_without_room-why.ensures ∙ ap (λ (x : List ℕ). without_room (refusal engine call (Some x))) digest in
    let answer = without_room_refused engine base h qs (holding_in (d.seen c.args.disk.now) engine base h c.args.run qs w.writing) asked call e c.requires.stores total (refusal engine call (Some (md5 total))) refl
    (lacking_full (d.seen c.args.disk.now) engine c.args.run base h qs bytes drains.0 w)
    ∙ ap (λ (r : Refused). record { reply = error_reply call.stamp r; added = []; grew = pieces_that_fit engine.log.limit (used engine) (length total) }) (sym why) in
    let settles = subst (λ (a : Answer Bytes). Settles c.refuse_in.result a (used engine) base h (d.seen c.refuse_in.new.disk) c.refuse_in.new.engine h) (sym answer)
    (c.refuse_in.ensures.settles base h qs (used engine) (pieces_that_fit engine.log.limit (used engine) (length total)) w.writing (lacking_next (d.seen c.args.disk.now) engine c.args.run base h qs bytes drains.0 w)) in (
      h,
      settles_goes c.refuse_in.result asked engine base h left c.digest_body.new.body.framer.stage (d.seen c.refuse_in.new.disk) c.refuse_in.new.engine h total all c.in-Whole.ensures.over settles,
      leaves_same d.moment d.left_since c.args.disk.now c.refuse_in.new.disk base h (c.refuse_in.ensures.any_moment base h qs w.writing),
    )

pub returns-in-Unfinished-clause-goes : goal.returns-in-Unfinished-clause-goes
returns-in-Unfinished-clause-goes g c base h qs asked left bytes e w holds took =
    let d = g.D.Disk in
    let engine = c.args.engine.now in
    let drains = c.in-Unfinished.ensures.drains in
    let total = bytes ++ drains.0 in
    let all = all_after left (body_left c.args.stream.now.framer (g.S.Source.left c.args.stream.now.source.now)) bytes drains.0 took drains.1 in
    let end = c.end_with in
    let next = lacking_next (d.seen c.args.disk.now) engine c.args.run base h qs bytes drains.0 w
    ∙ ap (λ (n : ℕ). used engine + n) (sym (stays_left engine base h qs (holding_in (d.seen c.args.disk.now) engine base h c.args.run qs w.writing) asked c.args.call e c.requires.stores total)) in (
      h,
      ended_goes asked engine base h left c.digest_body.new.body.framer.stage (d.seen end.new.disk) total end.result (answered.Unfinished c.in-Unfinished.ending) c.args.run engine end.new.engine all end.ensures.ends (end.ensures.current base h qs w.writing) (λ x. cc) next,
      leaves_same d.moment d.left_since c.args.disk.now end.new.disk base h (end.ensures.any_moment base h qs w.writing),
    )

pub returns-in-SourceFault-clause-goes : goal.returns-in-SourceFault-clause-goes
returns-in-SourceFault-clause-goes g c base h qs asked left bytes e w holds took =
    let d = g.D.Disk in
    let engine = c.args.engine.now in
    let drains = c.in-SourceFault.ensures.drains in
    let total = bytes ++ drains.0 in
    let front = front_after left (body_left c.args.stream.now.framer (g.S.Source.left c.args.stream.now.source.now)) bytes drains.0 took drains.1 in
    let end = c.end_with-in-SourceFault in
    let next = lacking_next (d.seen c.args.disk.now) engine c.args.run base h qs bytes drains.0 w
    ∙ ap (λ (n : ℕ). used engine + n) (sym (stays_left engine base h qs (holding_in (d.seen c.args.disk.now) engine base h c.args.run qs w.writing) asked c.args.call e c.requires.stores total)) in (
      h,
      ended_goes asked engine base h left c.digest_body.new.body.framer.stage (d.seen end.new.disk) total end.result answered.SourceFault c.args.run engine end.new.engine front end.ensures.ends (end.ensures.current base h qs w.writing) (λ x. cc) next,
      leaves_same d.moment d.left_since c.args.disk.now end.new.disk base h (end.ensures.any_moment base h qs w.writing),
    )

pub returns-clause-goes : goal.returns-clause-goes
returns-clause-goes g c base h qs asked left bytes e w holds took =
    let d = g.D.Disk in
    let engine = c.args.engine.now in
    let end = c.end_with-in-Endless in
    let drains = c.in-Endless.ensures.drains in
    let total = bytes ++ drains.0 in
    let next = lacking_next (d.seen c.args.disk.now) engine c.args.run base h qs bytes drains.0 w
    ∙ ap (λ (n : ℕ). used engine + n) (sym (stays_left engine base h qs (holding_in (d.seen c.args.disk.now) engine base h c.args.run qs w.writing) asked c.args.call e c.requires.stores total)) in (
      h,
      ended_goes asked engine base h left c.digest_body.new.body.framer.stage (d.seen end.new.disk) total end.result answered.Memory c.args.run engine end.new.engine tt end.ensures.ends (end.ensures.current base h qs w.writing) (λ x. cc) next,
      leaves_same d.moment d.left_since c.args.disk.now end.new.disk base h (end.ensures.any_moment base h qs w.writing),
    )

pub returns-in-Whole-clause-goes_on : goal.returns-in-Whole-clause-goes_on
returns-in-Whole-clause-goes_on g c =
    let s = g.S.Source in
    record {
      over = settled_over c.refuse_in.result c.digest_body.new.body.framer.stage c.refuse_in.ensures.settled.is_settled c.in-Whole.ensures.over;
      sends = held_sends c.refuse_in.result (g.D.Disk.seen c.refuse_in.new.disk) c.refuse_in.new.engine c.refuse_in.ensures.settled.held;
      keeps = c.refuse_in.ensures.settled.keeps;
      body = read_well s.left s.read_faults s.source_stays c.args.stream.now c.digest_body.new.body _ (c.refuse_in.result ≡ answered.SourceFault) (settled_not c.refuse_in.result c.refuse_in.ensures.settled.is_settled) c.digest_body.ensures.body;
    }

pub returns-in-Unfinished-clause-goes_on : goal.returns-in-Unfinished-clause-goes_on
returns-in-Unfinished-clause-goes_on g c =
    let d = g.D.Disk in
    let end = c.end_with in
    let s = g.S.Source in
    record {
      over = ended_over end.result (answered.Unfinished c.in-Unfinished.ending) c.args.engine.now c.args.run end.new.engine c.digest_body.new.body.framer.stage end.ensures.ends c.in-Unfinished.ensures.over;
      sends = held_sends end.result (d.seen end.new.disk) end.new.engine (held_ended end.result (answered.Unfinished c.in-Unfinished.ending) c.args.engine.now c.args.run end.new.engine end.ensures.ends tt);
      keeps = end.ensures.keeps;
      body = read_well s.left s.read_faults s.source_stays c.args.stream.now c.digest_body.new.body _ (end.result ≡ answered.SourceFault)
          (ended_not end.result (answered.Unfinished c.in-Unfinished.ending) c.args.engine.now c.args.run end.new.engine end.ensures.ends (λ x. cc)) c.digest_body.ensures.body;
    }

pub returns-in-SourceFault-clause-goes_on : goal.returns-in-SourceFault-clause-goes_on
returns-in-SourceFault-clause-goes_on g c =
    let d = g.D.Disk in
    let end = c.end_with-in-SourceFault in
    let s = g.S.Source in
    record {
      over = ended_over end.result answered.SourceFault c.args.engine.now c.args.run end.new.engine c.digest_body.new.body.framer.stage end.ensures.ends tt;
      sends = held_sends end.result (d.seen end.new.disk) end.new.engine (held_ended end.result answered.SourceFault c.args.engine.now c.args.run end.new.engine end.ensures.ends tt);
      keeps = end.ensures.keeps;
      body = read_as s.left s.read_faults s.source_stays c.args.stream.now c.digest_body.new.body (c.digest_body.result ≡ body_end.SourceFault) _ (λ x. c.in-SourceFault.is) c.digest_body.ensures.body;
    }

pub returns-clause-goes_on : goal.returns-clause-goes_on
returns-clause-goes_on g c =
    let d = g.D.Disk in
    let end = c.end_with-in-Endless in
    let s = g.S.Source in
    record {
      over = ended_over end.result answered.Memory c.args.engine.now c.args.run end.new.engine c.digest_body.new.body.framer.stage end.ensures.ends tt;
      sends = held_sends end.result (d.seen end.new.disk) end.new.engine (held_ended end.result answered.Memory c.args.engine.now c.args.run end.new.engine end.ensures.ends tt);
      keeps = end.ensures.keeps;
      body = read_well s.left s.read_faults s.source_stays c.args.stream.now c.digest_body.new.body _ (end.result ≡ answered.SourceFault)
          (ended_not end.result answered.Memory c.args.engine.now c.args.run end.new.engine end.ensures.ends (λ x. cc)) c.digest_body.ensures.body;
    }
