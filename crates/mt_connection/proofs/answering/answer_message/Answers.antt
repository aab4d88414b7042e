-- The step, by what became of its head, and then by what the request was answered.
use Rattle.std.proofs.Common.{◌≡◌, true, refl, ap, sym, subst, arith, ◌∙◌, rules}
use Rattle.std.specs.Prelude.{IfSome, Option, is_some}
use Rattle.mt_api.specs.Answered.{Hears, said}
use Rattle.mt_api.specs.declared.answered.Answered.TheVariants as answered
use Rattle.mt_disk.specs.CrashModel.{LeavesOnly}
use Rattle.mt_disk.specs.Files.{Files}
use Rattle.mt_edge.specs.Stream.{GotMore}
use Rattle.mt_opening.specs.Current.{IsBetween, Over, Serves, told_size}
use Rattle.mt_opening.specs.History.{Bytes, History}
use Rattle.mt_http.specs.Body.{BodyState, first_state}
use Rattle.mt_http.specs.Framing.{limit_of}
use Rattle.mt_http.specs.Options.{interim}
use Rattle.mt_http.specs.declared.message.Ending.TheVariants as ending
use Rattle.mt_model.specs.State.{State}
use Rattle.mt_runner.specs.Account.{AccountSide, account_side, told_time}
use Rattle.mt_connection.specs.Sides.{LinkSide, side_of}
use Rattle.mt_connection.specs.Steps.{Receives, plain}
use Rattle.mt_connection.specs.Transcript.{HoldsSince, Setting}
use Rattle.mt_connection.specs.declared.receive.Received.TheVariants as received
use Rattle.mt_connection.proofs.Conversing.{AnswersAt, can_be_read, disk_failed, ends_so, fault_not_disk, fault_not_memory, led_to, no_memory, not_disk, not_memory, unfinished, unfinished_not_disk, unfinished_not_memory, unread}
use Rattle.mt_connection.proofs.Crashes.{all_of, at_told, goes_on_none, holds_now, holds_read, images_open, left_now, moves_none, nearly_between, only_between, only_read, still_stands, told_later}
use Rattle.mt_connection.proofs.Exchanging.{answered_in, bad_in, count_is, counts_on, cut_at, disk_in, ended_at, large_in, memory_at, memory_in, refused_at, truncated_at, truncated_in, unread_at, unread_in}
use Rattle.mt_connection.proofs.Reading.{none_after}
use Rattle.mt_connection.proofs.Sending.{sends_on}
use Rattle.mt_connection.proofs.answering.answer_message.Goals as goal

pub returns-in-SinkFault-clause-goes_on : goal.returns-in-SinkFault-clause-goes_on
returns-in-SinkFault-clause-goes_on g c = let d = g.D.Disk in goes_on_none d.seen d.may_leave d.faults c.args.disk.now c.args.engine.now c.requires.ready

pub returns-in-SinkFault-clause-takes : goal.returns-in-SinkFault-clause-takes
returns-in-SinkFault-clause-takes g c slots tasks base h over =
    let d = g.D.Disk in
    let side = side_of g.L.Source.left g.L.Sink.got g.L.Source.read_faults g.L.Sink.write_faults in
    let disk = c.args.disk.now in
    let engine = c.args.engine.now in
    let knows = is_some (d.seen disk) in
    let moments = g.C.Clock.gives (g.C.Clock.rule c.args.clock.now) in
    let s : Setting = plain (is_some (g.L.Source.left c.args.link.now)) knows moments c.args.login.now slots engine.log.limit base in
    let x : AccountSide = account_side h (told_size (d.seen disk) engine) (d.faults disk) (told_time knows (d.moment disk)) (g.C.Clock.asked c.args.clock.now) tasks in
    (h, cut_at s (d.left_since disk) (d.may_leave disk) x (side c.args.link.now) (side c.receive.new.link) (λ is x image. images_open d.seen d.may_leave disk engine base h c.requires.ready.stands c.requires.ready.is_open over is x image) c.in-SinkFault.ensures.receives, moves_none d.seen d.may_leave d.moment d.left_since disk engine base h (g.met.D.Disk.only_now disk) c.requires.ready.stands c.requires.ready.is_open over)

pub returns-in-Nothing-End-clause-goes_on : goal.returns-in-Nothing-End-clause-goes_on
returns-in-Nothing-End-clause-goes_on g c = let d = g.D.Disk in goes_on_none d.seen d.may_leave d.faults c.args.disk.now c.args.engine.now c.requires.ready

pub returns-in-Nothing-End-clause-takes : goal.returns-in-Nothing-End-clause-takes
returns-in-Nothing-End-clause-takes g c slots tasks base h over =
    let d = g.D.Disk in
    let side = side_of g.L.Source.left g.L.Sink.got g.L.Source.read_faults g.L.Sink.write_faults in
    let disk = c.args.disk.now in
    let engine = c.args.engine.now in
    let knows = is_some (d.seen disk) in
    let moments = g.C.Clock.gives (g.C.Clock.rule c.args.clock.now) in
    let s : Setting = plain (is_some (g.L.Source.left c.args.link.now)) knows moments c.args.login.now slots engine.log.limit base in
    let x : AccountSide = account_side h (told_size (d.seen disk) engine) (d.faults disk) (told_time knows (d.moment disk)) (g.C.Clock.asked c.args.clock.now) tasks in
    (h, ended_at s (d.left_since disk) (d.may_leave disk) x (side c.args.link.now) (side c.receive.new.link) (λ is x image. images_open d.seen d.may_leave disk engine base h c.requires.ready.stands c.requires.ready.is_open over is x image) (rw c.in-Nothing-End.field-0-is at c.in-Nothing-End.ensures).receives, moves_none d.seen d.may_leave d.moment d.left_since disk engine base h (g.met.D.Disk.only_now disk) c.requires.ready.stands c.requires.ready.is_open over)

pub returns-in-Nothing-Truncated-clause-goes_on : goal.returns-in-Nothing-Truncated-clause-goes_on
returns-in-Nothing-Truncated-clause-goes_on g c = let d = g.D.Disk in goes_on_none d.seen d.may_leave d.faults c.args.disk.now c.args.engine.now c.requires.ready

pub returns-in-Nothing-Truncated-clause-takes : goal.returns-in-Nothing-Truncated-clause-takes
returns-in-Nothing-Truncated-clause-takes g c slots tasks base h over =
    let d = g.D.Disk in
    let side = side_of g.L.Source.left g.L.Sink.got g.L.Source.read_faults g.L.Sink.write_faults in
    let disk = c.args.disk.now in
    let engine = c.args.engine.now in
    let knows = is_some (d.seen disk) in
    let moments = g.C.Clock.gives (g.C.Clock.rule c.args.clock.now) in
    let s : Setting = plain (is_some (g.L.Source.left c.args.link.now)) knows moments c.args.login.now slots engine.log.limit base in
    let x : AccountSide = account_side h (told_size (d.seen disk) engine) (d.faults disk) (told_time knows (d.moment disk)) (g.C.Clock.asked c.args.clock.now) tasks in
    (h, truncated_at s (d.left_since disk) (d.may_leave disk) x (side c.args.link.now) (side c.receive.new.link) (λ is x image. images_open d.seen d.may_leave disk engine base h c.requires.ready.stands c.requires.ready.is_open over is x image) (rw c.in-Nothing-Truncated.field-0-is at c.in-Nothing-Truncated.ensures).receives, moves_none d.seen d.may_leave d.moment d.left_since disk engine base h (g.met.D.Disk.only_now disk) c.requires.ready.stands c.requires.ready.is_open over)

pub returns-in-Nothing-SourceFault-clause-goes_on : goal.returns-in-Nothing-SourceFault-clause-goes_on
returns-in-Nothing-SourceFault-clause-goes_on g c = let d = g.D.Disk in goes_on_none d.seen d.may_leave d.faults c.args.disk.now c.args.engine.now c.requires.ready

pub returns-in-Nothing-SourceFault-clause-takes : goal.returns-in-Nothing-SourceFault-clause-takes
returns-in-Nothing-SourceFault-clause-takes g c slots tasks base h over =
    let d = g.D.Disk in
    let side = side_of g.L.Source.left g.L.Sink.got g.L.Source.read_faults g.L.Sink.write_faults in
    let disk = c.args.disk.now in
    let engine = c.args.engine.now in
    let knows = is_some (d.seen disk) in
    let moments = g.C.Clock.gives (g.C.Clock.rule c.args.clock.now) in
    let s : Setting = plain (is_some (g.L.Source.left c.args.link.now)) knows moments c.args.login.now slots engine.log.limit base in
    let x : AccountSide = account_side h (told_size (d.seen disk) engine) (d.faults disk) (told_time knows (d.moment disk)) (g.C.Clock.asked c.args.clock.now) tasks in
    (h, unread_at s (d.left_since disk) (d.may_leave disk) x (side c.args.link.now) (side c.receive.new.link) (λ is x image. images_open d.seen d.may_leave disk engine base h c.requires.ready.stands c.requires.ready.is_open over is x image) (rw c.in-Nothing-SourceFault.field-0-is at c.in-Nothing-SourceFault.ensures).receives, moves_none d.seen d.may_leave d.moment d.left_since disk engine base h (g.met.D.Disk.only_now disk) c.requires.ready.stands c.requires.ready.is_open over)

pub returns-in-Nothing-Memory-clause-goes_on : goal.returns-in-Nothing-Memory-clause-goes_on
returns-in-Nothing-Memory-clause-goes_on g c = let d = g.D.Disk in goes_on_none d.seen d.may_leave d.faults c.args.disk.now c.args.engine.now c.requires.ready

pub returns-in-Nothing-Memory-clause-takes : goal.returns-in-Nothing-Memory-clause-takes
returns-in-Nothing-Memory-clause-takes g c slots tasks base h over =
    let d = g.D.Disk in
    let side = side_of g.L.Source.left g.L.Sink.got g.L.Source.read_faults g.L.Sink.write_faults in
    let disk = c.args.disk.now in
    let engine = c.args.engine.now in
    let knows = is_some (d.seen disk) in
    let moments = g.C.Clock.gives (g.C.Clock.rule c.args.clock.now) in
    let s : Setting = plain (is_some (g.L.Source.left c.args.link.now)) knows moments c.args.login.now slots engine.log.limit base in
    let x : AccountSide = account_side h (told_size (d.seen disk) engine) (d.faults disk) (told_time knows (d.moment disk)) (g.C.Clock.asked c.args.clock.now) tasks in
    (h, memory_at s (d.left_since disk) (d.may_leave disk) x (side c.args.link.now) (side c.receive.new.link) (λ is x image. images_open d.seen d.may_leave disk engine base h c.requires.ready.stands c.requires.ready.is_open over is x image) (rw c.in-Nothing-Memory.field-0-is at c.in-Nothing-Memory.ensures).receives, moves_none d.seen d.may_leave d.moment d.left_since disk engine base h (g.met.D.Disk.only_now disk) c.requires.ready.stands c.requires.ready.is_open over)

pub returns-in-Nothing-Bad-clause-goes_on : goal.returns-in-Nothing-Bad-clause-goes_on
returns-in-Nothing-Bad-clause-goes_on g c = let d = g.D.Disk in goes_on_none d.seen d.may_leave d.faults c.args.disk.now c.args.engine.now c.requires.ready

pub returns-in-Nothing-Bad-clause-takes : goal.returns-in-Nothing-Bad-clause-takes
returns-in-Nothing-Bad-clause-takes g c slots tasks base h over =
    let d = g.D.Disk in
    let side = side_of g.L.Source.left g.L.Sink.got g.L.Source.read_faults g.L.Sink.write_faults in
    let disk = c.args.disk.now in
    let engine = c.args.engine.now in
    let knows = is_some (d.seen disk) in
    let moments = g.C.Clock.gives (g.C.Clock.rule c.args.clock.now) in
    let s : Setting = plain (is_some (g.L.Source.left c.args.link.now)) knows moments c.args.login.now slots engine.log.limit base in
    let x : AccountSide = account_side h (told_size (d.seen disk) engine) (d.faults disk) (told_time knows (d.moment disk)) (g.C.Clock.asked c.args.clock.now) tasks in
    let out = g.met.L.Both.write_keeps _ _ c.refuse.ensures.stays in
    let stands : knows ≡ true → HoldsSince (d.left_since disk) x.time base h = λ is. at_told (λ t. HoldsSince (d.left_since disk) t base h) knows (d.moment disk) is (holds_now d.seen d.may_leave d.moment d.left_since disk engine base h (g.met.D.Disk.only_now disk) c.requires.ready.stands c.requires.ready.is_open over is) in (
      h,
      refused_at s (d.left_since disk) (d.may_leave disk) x (side c.args.link.now) (side c.refuse.new.sink) (λ is x image. images_open d.seen d.may_leave disk engine base h c.requires.ready.stands c.requires.ready.is_open over is x image)
          (side c.receive.new.link) (g.C.Clock.asked c.now.new.self) engine.state.count c.now.result c.refuse.result c.now.ensures.asked (λ is. count_is (d.seen disk) engine base h over is) c.now.ensures.given stands (rw c.in-Nothing-Bad.field-0-is at c.in-Nothing-Bad.ensures).receives (let same = out.1 in omega (arith, same)) c.refuse.ensures.refuses,
      moves_none d.seen d.may_leave d.moment d.left_since disk engine base h (g.met.D.Disk.only_now disk) c.requires.ready.stands c.requires.ready.is_open over,
    )

pub respond-requires-clause-ready : goal.respond-requires-clause-ready
respond-requires-clause-ready g c = record {
  there = λ is_open files is. (c.answer.ensures.goes_on.keeps.stands is_open files is).1;
  is_open = c.in-Replied.ensures.goes_on.keeps.live (not_disk c.in-Replied.reply) (not_memory c.in-Replied.reply);
}

pub respond-requires-clause-shown : goal.respond-requires-clause-shown
respond-requires-clause-shown g c = can_be_read (g.D.Disk.seen c.answer.new.disk) c.answer.new.engine c.in-Replied.reply.body c.in-Replied.ensures.goes_on.sends

pub returns-in-Replied-clause-takes : goal.returns-in-Replied-clause-takes
returns-in-Replied-clause-takes g c slots tasks base h over =
    let d = g.D.Disk in
    let side = side_of g.L.Source.left g.L.Sink.got g.L.Source.read_faults g.L.Sink.write_faults in
    let disk = c.args.disk.now in
    let engine = c.args.engine.now in
    let knows = is_some (d.seen disk) in
    let moments = g.C.Clock.gives (g.C.Clock.rule c.args.clock.now) in
    let s : Setting = plain (is_some (g.L.Source.left c.args.link.now)) knows moments c.args.login.now slots engine.log.limit base in
    let x : AccountSide = account_side h (told_size (d.seen disk) engine) (d.faults disk) (told_time knows (d.moment disk)) (g.C.Clock.asked c.args.clock.now) tasks in
    let disk' = c.answer.new.disk in
    let engine' = c.answer.new.engine in
    let before : LinkSide = side c.args.link.now in
    let at : LinkSide = side c.new-body.result.source.now in
    let mid : LinkSide = side c.answer.new.body.source.now in
    let keeps = g.met.L.Both.read_keeps _ _ c.answer.ensures.goes_on.body.stays in
    let framer : c.new-body.result.framer ≡ first_state c.in-Head.head.framing (limit_of c.in-Head.head) = c.new-body.ensures.framer ∙ ap (first_state c.in-Head.head.framing) c.limit_of.ensures in
    let read = subst (λ l. Receives (received.Head c.in-Head.head) before (side l.now)) (sym c.new-body.ensures.source) c.in-Head.ensures.receives in
    let M = λ (base : State Bytes) (h k : History). LeavesOnly d.moment d.left_since disk disk' (IsBetween base h k) in
    let answers = subst (λ (f : BodyState). AnswersAt (answered.Replied c.in-Replied.reply) f c.args.login.now c.in-Head.head c.now-moment.result at.left mid.left (d.seen disk) (d.seen disk') engine engine' M) framer c.in-Replied.ensures.answers in
    let later = told_later knows (d.moment disk) (d.moment disk') (λ is. (led_to (answered.Replied c.in-Replied.reply) (first_state c.in-Head.head.framing (limit_of c.in-Head.head)) c.args.login.now c.in-Head.head c.now-moment.result at.left mid.left (d.seen disk) (d.seen disk') engine engine' M answers base h over is).1.later) in
    let hears = subst (λ (f : BodyState). IfSome (said f at.left) (λ t. Hears (answered.Replied c.in-Replied.reply) t mid.left)) framer c.in-Replied.ensures.hears in
    let same : c.link-1.given.0 ≡ c.answer.new.body.source.now = search rules in
    let out = g.met.L.Both.write_keeps _ _ (rw same at c.respond.ensures.stays) in
    let sends = rw same at c.respond.ensures.sends in
    let new = c.respond.new.disk in
    let is_open = c.in-Replied.ensures.goes_on.keeps.live (not_disk c.in-Replied.reply) (not_memory c.in-Replied.reply) in
    let told = c.in-Replied.ensures.goes_on.keeps.stays.told is_open in
    let stands = c.answer.ensures.goes_on.keeps.stands in
    let only_now = g.met.D.Disk.only_now disk' in
    let a = answered_in slots moments c.args.login.now base h (d.left_since new) (d.may_leave new) (d.seen disk) (d.seen disk') (d.seen new) engine engine' x (account_side h 0 (d.faults new) (told_time knows (d.moment new)) (g.C.Clock.asked c.now-moment.new.self) tasks) (d.faults disk') (told_time knows (d.moment disk'))
    before at mid (side c.respond.new.sink) c.in-Head.head read keeps.0 keeps.1 c.answer.ensures.goes_on.body.reads c.answer.ensures.goes_on.keeps.stays.faults
    c.now-moment.ensures.asked refl later (told_later knows (d.moment disk') (d.moment new) (λ is. c.respond.ensures.read.time.later)) out.0 out.1 c.respond.ensures.read.seen_same c.now-moment.result c.in-Replied.reply c.respond.result c.now-moment.ensures.given told hears (λ none. none_after _ _ _ _ c.answer.ensures.goes_on.body.after none)
    M answers over sends.0 sends.1 sends.2
    (λ k is current y image. images_open d.seen d.may_leave disk' engine' base k stands is_open current (told ∙ is) y (c.respond.ensures.read.images.none_more y image))
    (λ k is current. at_told (λ t. HoldsSince (d.left_since new) t base k) knows (d.moment disk') is (holds_read d.seen d.may_leave d.moment d.left_since disk' new engine' base k only_now stands is_open current c.respond.ensures.read (told ∙ is))) in (
      a.0,
      a.1,
      record {
        over = λ is_open. subst (λ (o : Option Files). Over o engine' base a.0) (sym c.respond.ensures.read.seen_same) a.3;
        front = a.2;
        any_moment = λ is. only_read d.seen d.may_leave d.moment d.left_since disk disk' new engine' base h a.0 only_now stands is_open a.3 (told ∙ is) a.2 (a.4 is) c.respond.ensures.read;
      },
    )

pub returns-in-Replied-clause-goes_on : goal.returns-in-Replied-clause-goes_on
returns-in-Replied-clause-goes_on g c =
    let d = g.D.Disk in
    let read = c.respond.ensures.read in
    let before = c.answer.ensures.goes_on.keeps in
    record {
      stays = record {
        told = λ is_open. ap (λ (o : Option Files). is_some o) read.seen_same ∙ before.stays.told is_open;
        version = before.stays.version;
        limit = before.stays.limit;
        faults = let one = before.stays.faults in let two = sends_on _ _ _ _ _ _ _ _ _ c.respond.ensures.sends.2 in omega (arith, one, two);
      };
      stands = still_stands d.seen d.may_leave d.moment d.left_since c.answer.new.disk c.respond.new.disk c.answer.new.engine.log read before.stands;
      serves = subst (λ (o : Option Files). Serves o c.answer.new.engine) (sym read.seen_same) c.answer.ensures.serves;
    }

pub returns-in-Unfinished-Truncated-clause-takes : goal.returns-in-Unfinished-Truncated-clause-takes
returns-in-Unfinished-Truncated-clause-takes g c slots tasks base h over =
    let d = g.D.Disk in
    let side = side_of g.L.Source.left g.L.Sink.got g.L.Source.read_faults g.L.Sink.write_faults in
    let disk = c.args.disk.now in
    let engine = c.args.engine.now in
    let knows = is_some (d.seen disk) in
    let moments = g.C.Clock.gives (g.C.Clock.rule c.args.clock.now) in
    let s : Setting = plain (is_some (g.L.Source.left c.args.link.now)) knows moments c.args.login.now slots engine.log.limit base in
    let x : AccountSide = account_side h (told_size (d.seen disk) engine) (d.faults disk) (told_time knows (d.moment disk)) (g.C.Clock.asked c.args.clock.now) tasks in
    let disk' = c.answer.new.disk in
    let engine' = c.answer.new.engine in
    let before : LinkSide = side c.args.link.now in
    let at : LinkSide = side c.new-body.result.source.now in
    let mid : LinkSide = side c.answer.new.body.source.now in
    let keeps = g.met.L.Both.read_keeps _ _ c.answer.ensures.goes_on.body.stays in
    let framer : c.new-body.result.framer ≡ first_state c.in-Head.head.framing (limit_of c.in-Head.head) = c.new-body.ensures.framer ∙ ap (first_state c.in-Head.head.framing) c.limit_of.ensures in
    let read = subst (λ l. Receives (received.Head c.in-Head.head) before (side l.now)) (sym c.new-body.ensures.source) c.in-Head.ensures.receives in
    let M = λ (base : State Bytes) (h k : History). LeavesOnly d.moment d.left_since disk disk' (IsBetween base h k) in
    let answers = subst (λ (f : BodyState). AnswersAt (answered.Unfinished ending.Truncated) f c.args.login.now c.in-Head.head c.now-moment.result at.left mid.left (d.seen disk) (d.seen disk') engine engine' M) framer c.in-Unfinished-Truncated.ensures.answers in
    let later = told_later knows (d.moment disk) (d.moment disk') (λ is. (led_to (answered.Unfinished ending.Truncated) (first_state c.in-Head.head.framing (limit_of c.in-Head.head)) c.args.login.now c.in-Head.head c.now-moment.result at.left mid.left (d.seen disk) (d.seen disk') engine engine' M answers base h over is).1.later) in
    let hears = subst (λ (f : BodyState). IfSome (said f at.left) (λ t. Hears (answered.Unfinished ending.Truncated) t mid.left)) framer (rw c.in-Unfinished-Truncated.field-0-is at c.in-Unfinished-Truncated.ensures.hears) in
    let is_open = c.in-Unfinished-Truncated.ensures.goes_on.keeps.live (unfinished_not_disk _) (unfinished_not_memory _) in
    let told = c.in-Unfinished-Truncated.ensures.goes_on.keeps.stays.told is_open in
    let x' : AccountSide = account_side h (told_size (d.seen disk') engine') (d.faults disk') (told_time knows (d.moment disk')) (g.C.Clock.asked c.now-moment.new.self) tasks in
    let u = unfinished slots moments c.args.login.now base h before at c.in-Head.head read.0 engine engine' c.now-moment.result mid x x' M (d.seen disk) (d.seen disk') ending.Truncated told answers over in
    let same : c.link-1.given.0 ≡ c.answer.new.body.source.now = search rules in
    rw same (
      h,
      truncated_in s (d.left_since disk') (d.may_leave disk') x x' before at mid c.in-Head.head read keeps.0 keeps.1 c.answer.ensures.goes_on.body.reads (counts_on tasks h h (told_size (d.seen disk) engine) (told_size (d.seen disk') engine') (d.faults disk) (d.faults disk') x.time (told_time knows (d.moment disk')) x.asked (g.C.Clock.asked c.now-moment.new.self) c.answer.ensures.goes_on.keeps.stays.faults later c.now-moment.ensures.asked) refl
          (λ is y image. images_open d.seen d.may_leave disk' engine' base h c.answer.ensures.goes_on.keeps.stands is_open u.1 (told ∙ is) y image) (ends_so _ ending.Truncated mid.left hears) u.0,
      record { over = λ is_open. u.1; front = all_of h; any_moment = u.2 },
    )

pub returns-in-Unfinished-Bad-clause-takes : goal.returns-in-Unfinished-Bad-clause-takes
returns-in-Unfinished-Bad-clause-takes g c slots tasks base h over =
    let d = g.D.Disk in
    let side = side_of g.L.Source.left g.L.Sink.got g.L.Source.read_faults g.L.Sink.write_faults in
    let disk = c.args.disk.now in
    let engine = c.args.engine.now in
    let knows = is_some (d.seen disk) in
    let moments = g.C.Clock.gives (g.C.Clock.rule c.args.clock.now) in
    let s : Setting = plain (is_some (g.L.Source.left c.args.link.now)) knows moments c.args.login.now slots engine.log.limit base in
    let x : AccountSide = account_side h (told_size (d.seen disk) engine) (d.faults disk) (told_time knows (d.moment disk)) (g.C.Clock.asked c.args.clock.now) tasks in
    let disk' = c.answer.new.disk in
    let engine' = c.answer.new.engine in
    let before : LinkSide = side c.args.link.now in
    let at : LinkSide = side c.new-body.result.source.now in
    let mid : LinkSide = side c.answer.new.body.source.now in
    let keeps = g.met.L.Both.read_keeps _ _ c.answer.ensures.goes_on.body.stays in
    let framer : c.new-body.result.framer ≡ first_state c.in-Head.head.framing (limit_of c.in-Head.head) = c.new-body.ensures.framer ∙ ap (first_state c.in-Head.head.framing) c.limit_of.ensures in
    let read = subst (λ l. Receives (received.Head c.in-Head.head) before (side l.now)) (sym c.new-body.ensures.source) c.in-Head.ensures.receives in
    let M = λ (base : State Bytes) (h k : History). LeavesOnly d.moment d.left_since disk disk' (IsBetween base h k) in
    let answers = subst (λ (f : BodyState). AnswersAt (answered.Unfinished ending.Bad) f c.args.login.now c.in-Head.head c.now-moment.result at.left mid.left (d.seen disk) (d.seen disk') engine engine' M) framer c.in-Unfinished-Bad.ensures.answers in
    let later = told_later knows (d.moment disk) (d.moment disk') (λ is. (led_to (answered.Unfinished ending.Bad) (first_state c.in-Head.head.framing (limit_of c.in-Head.head)) c.args.login.now c.in-Head.head c.now-moment.result at.left mid.left (d.seen disk) (d.seen disk') engine engine' M answers base h over is).1.later) in
    let hears = subst (λ (f : BodyState). IfSome (said f at.left) (λ t. Hears (answered.Unfinished ending.Bad) t mid.left)) framer (rw c.in-Unfinished-Bad.field-0-is at c.in-Unfinished-Bad.ensures.hears) in
    let same : c.link-1.given.0 ≡ c.answer.new.body.source.now = search rules in
    let out = g.met.L.Both.write_keeps _ _ (rw same at c.refuse-in-Unfinished-Bad.ensures.stays) in
    let new : LinkSide = side c.refuse-in-Unfinished-Bad.new.sink in
    let is_open = c.in-Unfinished-Bad.ensures.goes_on.keeps.live (unfinished_not_disk _) (unfinished_not_memory _) in
    let told = c.in-Unfinished-Bad.ensures.goes_on.keeps.stays.told is_open in
    let stands = c.answer.ensures.goes_on.keeps.stands in
    let x' : AccountSide = account_side h (told_size (d.seen disk') engine') (d.faults disk') (told_time knows (d.moment disk')) (g.C.Clock.asked c.now-moment.new.self) tasks in
    let u = unfinished slots moments c.args.login.now base h before at c.in-Head.head read.0 engine engine' c.now-moment.result (record new { left = mid.left }) x x' M (d.seen disk) (d.seen disk') ending.Bad told answers over in (
      h,
      bad_in s (d.left_since disk') (d.may_leave disk') x x' before at mid c.in-Head.head read keeps.0 keeps.1 c.answer.ensures.goes_on.body.reads (counts_on tasks h h (told_size (d.seen disk) engine) (told_size (d.seen disk') engine') (d.faults disk) (d.faults disk') x.time (told_time knows (d.moment disk')) x.asked (g.C.Clock.asked c.now-moment.new.self) c.answer.ensures.goes_on.keeps.stays.faults later c.now-moment.ensures.asked) refl
          (λ is y image. images_open d.seen d.may_leave disk' engine' base h stands is_open u.1 (told ∙ is) y image) new (let faults = out.1 in omega (arith, faults)) c.now-moment.ensures.asked refl engine'.state.count c.now-moment.result
          (λ is. count_is (d.seen disk') engine' base h u.1 (told ∙ is)) c.now-moment.ensures.given u.0
          (λ is. at_told (λ t. HoldsSince (d.left_since disk') t base h) knows (d.moment disk') is (holds_now d.seen d.may_leave d.moment d.left_since disk' engine' base h (g.met.D.Disk.only_now disk') stands is_open u.1 (told ∙ is)))
          c.refuse-in-Unfinished-Bad.result (ends_so _ ending.Bad mid.left hears) (rw same at c.refuse-in-Unfinished-Bad.ensures.refuses),
      record { over = λ is_open. u.1; front = all_of h; any_moment = u.2 },
    )

pub returns-in-Unfinished-TooLarge-clause-takes : goal.returns-in-Unfinished-TooLarge-clause-takes
returns-in-Unfinished-TooLarge-clause-takes g c slots tasks base h over =
    let d = g.D.Disk in
    let side = side_of g.L.Source.left g.L.Sink.got g.L.Source.read_faults g.L.Sink.write_faults in
    let disk = c.args.disk.now in
    let engine = c.args.engine.now in
    let knows = is_some (d.seen disk) in
    let moments = g.C.Clock.gives (g.C.Clock.rule c.args.clock.now) in
    let s : Setting = plain (is_some (g.L.Source.left c.args.link.now)) knows moments c.args.login.now slots engine.log.limit base in
    let x : AccountSide = account_side h (told_size (d.seen disk) engine) (d.faults disk) (told_time knows (d.moment disk)) (g.C.Clock.asked c.args.clock.now) tasks in
    let disk' = c.answer.new.disk in
    let engine' = c.answer.new.engine in
    let before : LinkSide = side c.args.link.now in
    let at : LinkSide = side c.new-body.result.source.now in
    let mid : LinkSide = side c.answer.new.body.source.now in
    let keeps = g.met.L.Both.read_keeps _ _ c.answer.ensures.goes_on.body.stays in
    let framer : c.new-body.result.framer ≡ first_state c.in-Head.head.framing (limit_of c.in-Head.head) = c.new-body.ensures.framer ∙ ap (first_state c.in-Head.head.framing) c.limit_of.ensures in
    let read = subst (λ l. Receives (received.Head c.in-Head.head) before (side l.now)) (sym c.new-body.ensures.source) c.in-Head.ensures.receives in
    let M = λ (base : State Bytes) (h k : History). LeavesOnly d.moment d.left_since disk disk' (IsBetween base h k) in
    let answers = subst (λ (f : BodyState). AnswersAt (answered.Unfinished ending.TooLarge) f c.args.login.now c.in-Head.head c.now-moment.result at.left mid.left (d.seen disk) (d.seen disk') engine engine' M) framer c.in-Unfinished-TooLarge.ensures.answers in
    let later = told_later knows (d.moment disk) (d.moment disk') (λ is. (led_to (answered.Unfinished ending.TooLarge) (first_state c.in-Head.head.framing (limit_of c.in-Head.head)) c.args.login.now c.in-Head.head c.now-moment.result at.left mid.left (d.seen disk) (d.seen disk') engine engine' M answers base h over is).1.later) in
    let hears = subst (λ (f : BodyState). IfSome (said f at.left) (λ t. Hears (answered.Unfinished ending.TooLarge) t mid.left)) framer (rw c.in-Unfinished-TooLarge.field-0-is at c.in-Unfinished-TooLarge.ensures.hears) in
    let same : c.link-1.given.0 ≡ c.answer.new.body.source.now = search rules in
    let out = g.met.L.Both.write_keeps _ _ (rw same at c.refuse-in-Unfinished-TooLarge.ensures.stays) in
    let new : LinkSide = side c.refuse-in-Unfinished-TooLarge.new.sink in
    let is_open = c.in-Unfinished-TooLarge.ensures.goes_on.keeps.live (unfinished_not_disk _) (unfinished_not_memory _) in
    let told = c.in-Unfinished-TooLarge.ensures.goes_on.keeps.stays.told is_open in
    let stands = c.answer.ensures.goes_on.keeps.stands in
    let x' : AccountSide = account_side h (told_size (d.seen disk') engine') (d.faults disk') (told_time knows (d.moment disk')) (g.C.Clock.asked c.now-moment.new.self) tasks in
    let u = unfinished slots moments c.args.login.now base h before at c.in-Head.head read.0 engine engine' c.now-moment.result (record new { left = mid.left }) x x' M (d.seen disk) (d.seen disk') ending.TooLarge told answers over in (
      h,
      large_in s (d.left_since disk') (d.may_leave disk') x x' before at mid c.in-Head.head read keeps.0 keeps.1 c.answer.ensures.goes_on.body.reads (counts_on tasks h h (told_size (d.seen disk) engine) (told_size (d.seen disk') engine') (d.faults disk) (d.faults disk') x.time (told_time knows (d.moment disk')) x.asked (g.C.Clock.asked c.now-moment.new.self) c.answer.ensures.goes_on.keeps.stays.faults later c.now-moment.ensures.asked) refl
          (λ is y image. images_open d.seen d.may_leave disk' engine' base h stands is_open u.1 (told ∙ is) y image) new (let faults = out.1 in omega (arith, faults)) c.now-moment.ensures.asked refl engine'.state.count c.now-moment.result
          (λ is. count_is (d.seen disk') engine' base h u.1 (told ∙ is)) c.now-moment.ensures.given u.0
          (λ is. at_told (λ t. HoldsSince (d.left_since disk') t base h) knows (d.moment disk') is (holds_now d.seen d.may_leave d.moment d.left_since disk' engine' base h (g.met.D.Disk.only_now disk') stands is_open u.1 (told ∙ is)))
          c.refuse-in-Unfinished-TooLarge.result (ends_so _ ending.TooLarge mid.left hears) (rw same at c.refuse-in-Unfinished-TooLarge.ensures.refuses),
      record { over = λ is_open. u.1; front = all_of h; any_moment = u.2 },
    )

pub returns-in-SourceFault-clause-takes : goal.returns-in-SourceFault-clause-takes
returns-in-SourceFault-clause-takes g c slots tasks base h over =
    let d = g.D.Disk in
    let side = side_of g.L.Source.left g.L.Sink.got g.L.Source.read_faults g.L.Sink.write_faults in
    let disk = c.args.disk.now in
    let engine = c.args.engine.now in
    let knows = is_some (d.seen disk) in
    let moments = g.C.Clock.gives (g.C.Clock.rule c.args.clock.now) in
    let s : Setting = plain (is_some (g.L.Source.left c.args.link.now)) knows moments c.args.login.now slots engine.log.limit base in
    let x : AccountSide = account_side h (told_size (d.seen disk) engine) (d.faults disk) (told_time knows (d.moment disk)) (g.C.Clock.asked c.args.clock.now) tasks in
    let disk' = c.answer.new.disk in
    let engine' = c.answer.new.engine in
    let before : LinkSide = side c.args.link.now in
    let at : LinkSide = side c.new-body.result.source.now in
    let mid : LinkSide = side c.answer.new.body.source.now in
    let keeps = g.met.L.Both.read_keeps _ _ c.answer.ensures.goes_on.body.stays in
    let framer : c.new-body.result.framer ≡ first_state c.in-Head.head.framing (limit_of c.in-Head.head) = c.new-body.ensures.framer ∙ ap (first_state c.in-Head.head.framing) c.limit_of.ensures in
    let read = subst (λ l. Receives (received.Head c.in-Head.head) before (side l.now)) (sym c.new-body.ensures.source) c.in-Head.ensures.receives in
    let M = λ (base : State Bytes) (h k : History). LeavesOnly d.moment d.left_since disk disk' (IsBetween base h k) in
    let answers = subst (λ (f : BodyState). AnswersAt (answered.SourceFault) f c.args.login.now c.in-Head.head c.now-moment.result at.left mid.left (d.seen disk) (d.seen disk') engine engine' M) framer c.in-SourceFault.ensures.answers in
    let later = told_later knows (d.moment disk) (d.moment disk') (λ is. (led_to (answered.SourceFault) (first_state c.in-Head.head.framing (limit_of c.in-Head.head)) c.args.login.now c.in-Head.head c.now-moment.result at.left mid.left (d.seen disk) (d.seen disk') engine engine' M answers base h over is).1.later) in
    let is_open = c.in-SourceFault.ensures.goes_on.keeps.live fault_not_disk fault_not_memory in
    let told = c.in-SourceFault.ensures.goes_on.keeps.stays.told is_open in
    let x' : AccountSide = account_side h (told_size (d.seen disk') engine') (d.faults disk') (told_time knows (d.moment disk')) (g.C.Clock.asked c.now-moment.new.self) tasks in
    let u = unread slots moments c.args.login.now base h before at c.in-Head.head read.0 engine engine' c.now-moment.result mid x x' M (d.seen disk) (d.seen disk') told answers over in
    let same : c.link-1.given.0 ≡ c.answer.new.body.source.now = search rules in
    rw same (
      h,
      unread_in s (d.left_since disk') (d.may_leave disk') x x' before at mid c.in-Head.head read keeps.0 keeps.1 c.answer.ensures.goes_on.body.reads (counts_on tasks h h (told_size (d.seen disk) engine) (told_size (d.seen disk') engine') (d.faults disk) (d.faults disk') x.time (told_time knows (d.moment disk')) x.asked (g.C.Clock.asked c.now-moment.new.self) c.answer.ensures.goes_on.keeps.stays.faults later c.now-moment.ensures.asked) refl
          (λ is y image. images_open d.seen d.may_leave disk' engine' base h c.answer.ensures.goes_on.keeps.stands is_open u.1 (told ∙ is) y image) (c.in-SourceFault.ensures.goes_on.body.failed refl) u.0,
      record { over = λ is_open. u.1; front = all_of h; any_moment = u.2 },
    )

pub returns-in-Disk-clause-takes : goal.returns-in-Disk-clause-takes
returns-in-Disk-clause-takes g c slots tasks base h over =
    let d = g.D.Disk in
    let side = side_of g.L.Source.left g.L.Sink.got g.L.Source.read_faults g.L.Sink.write_faults in
    let disk = c.args.disk.now in
    let engine = c.args.engine.now in
    let knows = is_some (d.seen disk) in
    let moments = g.C.Clock.gives (g.C.Clock.rule c.args.clock.now) in
    let s : Setting = plain (is_some (g.L.Source.left c.args.link.now)) knows moments c.args.login.now slots engine.log.limit base in
    let x : AccountSide = account_side h (told_size (d.seen disk) engine) (d.faults disk) (told_time knows (d.moment disk)) (g.C.Clock.asked c.args.clock.now) tasks in
    let disk' = c.answer.new.disk in
    let engine' = c.answer.new.engine in
    let before : LinkSide = side c.args.link.now in
    let at : LinkSide = side c.new-body.result.source.now in
    let mid : LinkSide = side c.answer.new.body.source.now in
    let keeps = g.met.L.Both.read_keeps _ _ c.answer.ensures.goes_on.body.stays in
    let framer : c.new-body.result.framer ≡ first_state c.in-Head.head.framing (limit_of c.in-Head.head) = c.new-body.ensures.framer ∙ ap (first_state c.in-Head.head.framing) c.limit_of.ensures in
    let read = subst (λ l. Receives (received.Head c.in-Head.head) before (side l.now)) (sym c.new-body.ensures.source) c.in-Head.ensures.receives in
    let M = λ (base : State Bytes) (h k : History). LeavesOnly d.moment d.left_since disk disk' (IsBetween base h k) in
    let answers = subst (λ (f : BodyState). AnswersAt (answered.Disk) f c.args.login.now c.in-Head.head c.now-moment.result at.left mid.left (d.seen disk) (d.seen disk') engine engine' M) framer c.in-Disk.ensures.answers in
    let later = told_later knows (d.moment disk) (d.moment disk') (λ is. (led_to (answered.Disk) (first_state c.in-Head.head.framing (limit_of c.in-Head.head)) c.args.login.now c.in-Head.head c.now-moment.result at.left mid.left (d.seen disk) (d.seen disk') engine engine' M answers base h over is).1.later) in
    let sink = subst (λ got. GotMore before.got (interim c.in-Head.head) got) (sym keeps.0) read.1 in
    let f = disk_failed slots moments c.args.login.now base h before at c.in-Head.head read.0 engine engine' c.now-moment.result mid x (account_side h (told_size (d.seen disk') engine') (d.faults disk') (told_time knows (d.moment disk')) (g.C.Clock.asked c.now-moment.new.self) tasks) M (d.left_since disk') (d.seen disk) (d.seen disk') c.now-moment.ensures.given (λ none. none_after _ _ _ _ c.answer.ensures.goes_on.body.after none) c.answer.ensures.goes_on.keeps.stays.told sink later answers over in
    let x' : AccountSide = account_side f.0 (told_size (d.seen disk') engine') (d.faults disk') (told_time knows (d.moment disk')) (g.C.Clock.asked c.now-moment.new.self) tasks in
    let same : c.link-1.given.0 ≡ c.answer.new.body.source.now = search rules in
    rw same (
      f.0,
      disk_in s (d.left_since disk') (d.may_leave disk') x x' before at mid c.in-Head.head read keeps.0 keeps.1 c.answer.ensures.goes_on.body.reads (counts_on tasks h f.0 (told_size (d.seen disk) engine) (told_size (d.seen disk') engine') (d.faults disk) (d.faults disk') x.time (told_time knows (d.moment disk')) x.asked (g.C.Clock.asked c.now-moment.new.self) c.answer.ensures.goes_on.keeps.stays.faults later c.now-moment.ensures.asked) (c.in-Disk.ensures.goes_on.keeps.disk refl) f.1
          (λ is y image. nearly_between base h f.0 y f.3 (left_now d.may_leave d.moment d.left_since disk disk' base h f.0 (g.met.D.Disk.counts_now disk') (f.4 is) y image)),
      record { over = f.5; front = f.2; any_moment = f.4 },
    )

pub returns-clause-takes : goal.returns-clause-takes
returns-clause-takes g c slots tasks base h over =
    let d = g.D.Disk in
    let side = side_of g.L.Source.left g.L.Sink.got g.L.Source.read_faults g.L.Sink.write_faults in
    let disk = c.args.disk.now in
    let engine = c.args.engine.now in
    let knows = is_some (d.seen disk) in
    let moments = g.C.Clock.gives (g.C.Clock.rule c.args.clock.now) in
    let s : Setting = plain (is_some (g.L.Source.left c.args.link.now)) knows moments c.args.login.now slots engine.log.limit base in
    let x : AccountSide = account_side h (told_size (d.seen disk) engine) (d.faults disk) (told_time knows (d.moment disk)) (g.C.Clock.asked c.args.clock.now) tasks in
    let disk' = c.answer.new.disk in
    let engine' = c.answer.new.engine in
    let before : LinkSide = side c.args.link.now in
    let at : LinkSide = side c.new-body.result.source.now in
    let mid : LinkSide = side c.answer.new.body.source.now in
    let keeps = g.met.L.Both.read_keeps _ _ c.answer.ensures.goes_on.body.stays in
    let framer : c.new-body.result.framer ≡ first_state c.in-Head.head.framing (limit_of c.in-Head.head) = c.new-body.ensures.framer ∙ ap (first_state c.in-Head.head.framing) c.limit_of.ensures in
    let read = subst (λ l. Receives (received.Head c.in-Head.head) before (side l.now)) (sym c.new-body.ensures.source) c.in-Head.ensures.receives in
    let M = λ (base : State Bytes) (h k : History). LeavesOnly d.moment d.left_since disk disk' (IsBetween base h k) in
    let answers = subst (λ (f : BodyState). AnswersAt (answered.Memory) f c.args.login.now c.in-Head.head c.now-moment.result at.left mid.left (d.seen disk) (d.seen disk') engine engine' M) framer c.in-Memory.ensures.answers in
    let later = told_later knows (d.moment disk) (d.moment disk') (λ is. (led_to (answered.Memory) (first_state c.in-Head.head.framing (limit_of c.in-Head.head)) c.args.login.now c.in-Head.head c.now-moment.result at.left mid.left (d.seen disk) (d.seen disk') engine engine' M answers base h over is).1.later) in
    let x' : AccountSide = account_side h (told_size (d.seen disk') engine') (d.faults disk') (told_time knows (d.moment disk')) (g.C.Clock.asked c.now-moment.new.self) tasks in
    let m = no_memory slots moments c.args.login.now base h before at c.in-Head.head read.0 engine engine' c.now-moment.result mid x x' M (d.seen disk) (d.seen disk') c.answer.ensures.goes_on.keeps.stays.told answers over in
    let same : c.link-1.given.0 ≡ c.answer.new.body.source.now = search rules in
    rw same (
      h,
      memory_in s (d.left_since disk') (d.may_leave disk') x x' before at mid c.in-Head.head read keeps.0 keeps.1 c.answer.ensures.goes_on.body.reads (counts_on tasks h h (told_size (d.seen disk) engine) (told_size (d.seen disk') engine') (d.faults disk) (d.faults disk') x.time (told_time knows (d.moment disk')) x.asked (g.C.Clock.asked c.now-moment.new.self) c.answer.ensures.goes_on.keeps.stays.faults later c.now-moment.ensures.asked) refl
          (λ is y image. only_between base h y (left_now d.may_leave d.moment d.left_since disk disk' base h h (g.met.D.Disk.counts_now disk') (m.1 is) y image)),
      record { over = m.0; front = all_of h; any_moment = m.1 },
    )

pub returns-in-Unfinished-Truncated-clause-goes_on : goal.returns-in-Unfinished-Truncated-clause-goes_on
returns-in-Unfinished-Truncated-clause-goes_on g c = record { stays = c.answer.ensures.goes_on.keeps.stays; stands = c.answer.ensures.goes_on.keeps.stands; serves = c.answer.ensures.serves }

pub returns-in-Unfinished-Truncated-clause-live : goal.returns-in-Unfinished-Truncated-clause-live
returns-in-Unfinished-Truncated-clause-live g c d m = c.in-Unfinished-Truncated.ensures.goes_on.keeps.live (unfinished_not_disk _) (unfinished_not_memory _)

pub returns-in-Unfinished-Bad-clause-goes_on : goal.returns-in-Unfinished-Bad-clause-goes_on
returns-in-Unfinished-Bad-clause-goes_on g c = record { stays = c.answer.ensures.goes_on.keeps.stays; stands = c.answer.ensures.goes_on.keeps.stands; serves = c.answer.ensures.serves }

pub returns-in-Unfinished-Bad-clause-live : goal.returns-in-Unfinished-Bad-clause-live
returns-in-Unfinished-Bad-clause-live g c d m = c.in-Unfinished-Bad.ensures.goes_on.keeps.live (unfinished_not_disk _) (unfinished_not_memory _)

pub returns-in-Unfinished-TooLarge-clause-goes_on : goal.returns-in-Unfinished-TooLarge-clause-goes_on
returns-in-Unfinished-TooLarge-clause-goes_on g c = record { stays = c.answer.ensures.goes_on.keeps.stays; stands = c.answer.ensures.goes_on.keeps.stands; serves = c.answer.ensures.serves }

pub returns-in-Unfinished-TooLarge-clause-live : goal.returns-in-Unfinished-TooLarge-clause-live
returns-in-Unfinished-TooLarge-clause-live g c d m = c.in-Unfinished-TooLarge.ensures.goes_on.keeps.live (unfinished_not_disk _) (unfinished_not_memory _)

pub returns-in-SourceFault-clause-goes_on : goal.returns-in-SourceFault-clause-goes_on
returns-in-SourceFault-clause-goes_on g c = record { stays = c.answer.ensures.goes_on.keeps.stays; stands = c.answer.ensures.goes_on.keeps.stands; serves = c.answer.ensures.serves }

pub returns-in-SourceFault-clause-live : goal.returns-in-SourceFault-clause-live
returns-in-SourceFault-clause-live g c d m = c.in-SourceFault.ensures.goes_on.keeps.live fault_not_disk fault_not_memory

pub returns-in-Disk-clause-goes_on : goal.returns-in-Disk-clause-goes_on
returns-in-Disk-clause-goes_on g c = record { stays = c.answer.ensures.goes_on.keeps.stays; stands = c.answer.ensures.goes_on.keeps.stands; serves = c.answer.ensures.serves }

pub returns-clause-goes_on : goal.returns-clause-goes_on
returns-clause-goes_on g c = record { stays = c.answer.ensures.goes_on.keeps.stays; stands = c.answer.ensures.goes_on.keeps.stands; serves = c.answer.ensures.serves }

pub returns-in-Replied-clause-live : goal.returns-in-Replied-clause-live
returns-in-Replied-clause-live g c d m = c.in-Replied.ensures.goes_on.keeps.live (not_disk c.in-Replied.reply) (not_memory c.in-Replied.reply)
