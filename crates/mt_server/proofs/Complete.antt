-- How a run ends in which no count rose.
use Rattle.std.proofs.Common.{◌≡◌, ◌⊎◌, ℕ, Option, inl, inr, refl}
use Rattle.std.specs.Prelude.{IfSome}
use Rattle.mt_base.specs.Counts.{Rose}
use Rattle.mt_disk.specs.Files.{Files}
use Rattle.mt_opening.specs.History.{Bytes}
use Rattle.mt_opening.specs.Opening.{IsReadable, IsRefused}
use Rattle.mt_opening.specs.declared.opening.Unreadable.{Unreadable}
use Rattle.mt_opening.proofs.Openings.{not_both}
use Rattle.mt_runner.specs.declared.turn.Turn.TheVariants as turn
use Rattle.mt_connection.specs.Outcomes.{Outcome, OutcomeAt}
use Rattle.mt_connection.specs.declared.end.ConnectionEnd.TheVariants as ended
use Rattle.mt_server.specs.Statuses.{Asked, ByBytes, ByDisk, ByDoor, ByLink, IsAnswered, IsOfServe, IsOfSession, code_of, most_messages}
use Rattle.mt_server.specs.declared.status.ServeEnd.TheVariants as serving
use Rattle.mt_server.specs.declared.status.Status.{Status}
use Rattle.mt_server.specs.declared.status.Status.TheVariants as status

-- all that a session may end in then
abbrev pub SessionEnds : Option Bytes → ℕ → Type 0
SessionEnds left result = (result ≡ 8) ⊎ (result ≡ 9) ⊎ ((o : Outcome) × IfSome left (λ bytes. OutcomeAt most_messages bytes o) × Asked o result)

module _ (files : Files) (readable : IsReadable files) (left : Option Bytes) (r w d r' w' d' : ℕ) (no_read : Rose r r' → ⊥) (no_write : Rose w w' → ⊥) (no_disk : Rose d d' → ⊥) where
  pub session_ends : (s : Status) → IsOfSession s → ((why : Unreadable) → s ≡ status.UnreadableLog why → IsRefused files why) → ByLink s r w r' w' → ByDisk s d d' → IfSome left (λ bytes. ByBytes bytes s) → SessionEnds left (code_of s)
  session_ends status.Usage of refused link disk bytes = absurd of
  session_ends (status.Serve end) of refused link disk bytes = absurd of
  session_ends (status.UnreadableLog why) of refused link disk bytes = absurd (not_both files why (refused why refl) readable)
  session_ends status.OpeningFault of refused link disk bytes = absurd (no_disk disk)
  session_ends status.OutOfMemory of refused link disk bytes = inl refl
  session_ends (status.Session ended.Ended) of refused link disk bytes = absurd of
  session_ends (status.Session ended.Many) of refused link disk bytes = inr (inr (Outcome.TooMany, bytes, refl))
  session_ends (status.Session ended.Truncated) of refused link disk bytes = inr (inr (Outcome.CutShort, bytes, refl))
  session_ends (status.Session ended.Refused) of refused link disk bytes = inr (inr (Outcome.Malformed, bytes, refl))
  session_ends (status.Session ended.SourceFault) of refused link disk bytes = absurd (no_read link)
  session_ends (status.Session ended.SinkFault) of refused link disk bytes = absurd (no_write link)
  session_ends (status.Session ended.Full) of refused link disk bytes = inr (inl refl)
  session_ends (status.Session ended.Disk) of refused link disk bytes = absurd (no_disk disk)
  session_ends (status.Session ended.Memory) of refused link disk bytes = inl refl
  session_ends (status.Drained turn.Idle) of refused link disk bytes = inr (inr (Outcome.Closed, bytes, inl refl))
  session_ends (status.Drained turn.SpawnFault) of refused link disk bytes = inr (inr (Outcome.Closed, bytes, inr (inl refl)))
  session_ends (status.Drained turn.NotYet) of refused link disk bytes = inr (inr (Outcome.Closed, bytes, inr (inr refl)))
  session_ends (status.Drained (turn.Closed job)) of refused link disk bytes = inr (inr (Outcome.Closed, bytes, inr (inr refl)))
  session_ends (status.Drained (turn.Committed task)) of refused link disk bytes = inr (inr (Outcome.Closed, bytes, inr (inr refl)))
  session_ends (status.Drained turn.Full) of refused link disk bytes = inr (inl refl)
  session_ends (status.Drained turn.Disk) of refused link disk bytes = absurd (no_disk disk)
  session_ends (status.Drained turn.Memory) of refused link disk bytes = inl refl

module _ (files : Files) (readable : IsReadable files) (wanted t f t' f' d d' : ℕ) (no_disk : Rose d d' → ⊥) (no_door : Rose f f' → ⊥) where
  pub serve_ends : (s : Status) → IsOfServe s → ((why : Unreadable) → s ≡ status.UnreadableLog why → IsRefused files why) → ByDisk s d d' → ByDoor s wanted t f t' f' → IsAnswered (code_of s) ⊎ (code_of s ≡ 8) ⊎ (code_of s ≡ 9)
  serve_ends status.Usage of refused disk door = absurd of
  serve_ends (status.Session end) of refused disk door = absurd of
  serve_ends (status.Drained last) of refused disk door = absurd of
  serve_ends (status.UnreadableLog why) of refused disk door = absurd (not_both files why (refused why refl) readable)
  serve_ends status.OpeningFault of refused disk door = absurd (no_disk disk)
  serve_ends status.OutOfMemory of refused disk door = inr (inl refl)
  serve_ends (status.Serve serving.Served) of refused disk door = inl (inl refl)
  serve_ends (status.Serve serving.TasksFailed) of refused disk door = inl (inr (inl refl))
  serve_ends (status.Serve serving.TasksPending) of refused disk door = inl (inr (inr refl))
  serve_ends (status.Serve serving.NoLink) of refused disk door = absurd (no_door door.1)
  serve_ends (status.Serve serving.LogFull) of refused disk door = inr (inr refl)
  serve_ends (status.Serve serving.Disk) of refused disk door = absurd (no_disk disk)
  serve_ends (status.Serve serving.Memory) of refused disk door = inr (inl refl)
  serve_ends (status.Serve serving.Spent) of refused disk door = inr (inl refl)
