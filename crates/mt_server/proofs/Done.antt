-- A run that ended with 0.
use Rattle.std.proofs.Common.{◌≡◌, ℕ, true, Option, Some, sym, subst, ◌∙◌, arith}
use Rattle.std.specs.Option.{ForSome}
use Rattle.mt_disk.specs.Files.{Files}
use Rattle.mt_opening.specs.History.{HasHistory, History}
use Rattle.mt_model.specs.CommandStep.{replay}
use Rattle.mt_runner.specs.Turning.{most_turns}
use Rattle.mt_runner.specs.declared.turn.Turn.TheVariants as turn
use Rattle.mt_connection.specs.Sides.{LinkSide, Sides, account_of}
use Rattle.mt_connection.specs.Transcript.{Setting, working}
use Rattle.mt_connection.specs.declared.end.ConnectionEnd.TheVariants as ended
use Rattle.mt_server.specs.Guarantees.{HasRun, HasServed, NothingLeft, Scene, Shop, Visited}
use Rattle.mt_server.specs.Statuses.{code_of}
use Rattle.mt_server.specs.declared.status.ServeEnd.TheVariants as serving
use Rattle.mt_server.specs.declared.status.Status.{Status}
use Rattle.mt_server.specs.declared.status.Status.TheVariants as status
use Rattle.mt_server.proofs.Connecting.{history_one}
use Rattle.mt_server.proofs.Finishing.{idle_left, last_drained}

pub only_files : (o : Option Files) (files : Files) (P : Files → Type 0) → o ≡ Some files → P files → ForSome o P
only_files o files P is p other also = let same : files ≡ other = cc in subst P same p

-- of a session
pub session_done : (s : Setting) (old : Scene Sides) (end : Status) (new : Scene Sides) → s.knows ≡ true → code_of end ≡ 0 → HasRun s old end new → (c : Files) → new.images c → (k : History) → HasHistory s.base k c → NothingLeft (replay s.base k)
session_done s old (status.Drained turn.Idle) new knows is run c image k has =
    let w = run.transcript in
    let left = idle_left (working s) most_turns (account_of w.1.0) (account_of w.0) knows w.1.2 in
    let same : new.side.history ≡ w.0.history = w.3.history in
    let one = history_one s.base k new.side.history c has (run.holds.durable_at_exit knows c image) in
    subst (λ (h : History). NothingLeft (replay s.base h)) (sym (one ∙ same)) left
session_done s old (status.Session ended.Ended) new knows is run c image k has = absurd run.transcript.1
session_done s old (status.Serve end) new knows is run c image k has = absurd run.transcript
session_done s old end new knows is run c image k has = absurd (omega (arith, is))

-- of a serve
pub serve_done : {L : Type 0} (side : L → LinkSide) (stays : L → L → Type 0) (s : Setting) (wanted : ℕ) (old : Scene (Shop L)) (end : Status) (new : Scene (Shop L)) → s.knows ≡ true → code_of end ≡ 0 → HasServed side stays s wanted old end new
    → (c : Files) → new.images c → (k : History) → HasHistory s.base k c → NothingLeft (replay s.base k)
serve_done side stays s wanted old (status.Serve serving.Served) new knows is run c image k has =
    let t = run.transcript.0 in
    let last = last_drained (Visited side stays s new.since) s t.opened run.events t.worked turn.Idle t.led run.transcript.1.1 in
    let left = idle_left (working s) most_turns last.0 t.worked knows last.1 in
    let same : new.side.account.history ≡ t.worked.history = t.is_stopped.history in
    let one = history_one s.base k new.side.account.history c has (run.holds.durable_at_exit knows c image) in
    subst (λ (h : History). NothingLeft (replay s.base h)) (sym (one ∙ same)) left
serve_done side stays s wanted old (status.Session end) new knows is run c image k has = absurd run.transcript
serve_done side stays s wanted old (status.Drained last) new knows is run c image k has = absurd run.transcript
serve_done side stays s wanted old end new knows is run c image k has = absurd (omega (arith, is))
