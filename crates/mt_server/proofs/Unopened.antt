-- What the status of a store that was not opened says, and that of one that was.
use Rattle.std.proofs.Common.{◌≡◌, ℕ, Option, Some, None, refl, sym, ap, subst, ◌∙◌, arith}
use Rattle.std.specs.Prelude.{IfSome}
use Rattle.mt_base.specs.Counts.{NeverFell, Rose}
use Rattle.mt_opening.specs.History.{Bytes}
use Rattle.mt_opening.specs.declared.opening.OpenEnd.{OpenEnd}
use Rattle.mt_opening.specs.declared.opening.OpenEnd.TheVariants as opening
use Rattle.mt_opening.specs.declared.opening.Unreadable.{Unreadable}
use Rattle.mt_connection.specs.declared.end.ConnectionEnd.TheVariants as ended
use Rattle.mt_server.specs.Lines.{SaysLine, line_of}
use Rattle.mt_server.specs.Statuses.{ByBytes, ByDisk, ByLink, BySpawner, IsOfServe, IsOfSession, IsUnopened, NotOpened, Tells}
use Rattle.mt_runner.specs.declared.turn.Turn.TheVariants as turn
use Rattle.mt_server.specs.declared.status.ServeEnd.TheVariants as serving
use Rattle.mt_server.specs.declared.status.Status.{Status}
use Rattle.mt_server.specs.declared.status.Status.TheVariants as status

-- ---- why an engine was not opened gives the status

pub unopened_by : (end : OpenEnd) (s : Status) (got : Option Bytes) (w d : ℕ) (got' : Option Bytes) (w' d' : ℕ) → Tells end got w s got' w' → (end ≡ opening.Disk → Rose d d') → IsUnopened s × NotOpened s got w d got' w' d'
unopened_by (opening.Unreadable why) (status.UnreadableLog said) got w d got' w' d' tells rose = (tt, subst (λ (u : Unreadable). SaysLine (line_of u) got got' w w') (sym tells.0) tells.1)
unopened_by (opening.Unreadable why) status.OutOfMemory got w d got' w' d' tells rose = (tt, tells)
unopened_by opening.Disk status.OpeningFault got w d got' w' d' tells rose = (tt, (tells.0, tells.1, rose refl))
unopened_by opening.Memory status.OutOfMemory got w d got' w' d' tells rose = (tt, tells)
unopened_by end s got w d got' w' d' tells rose = absurd tells

-- the log that the status names is the one that was refused
pub told_why : (end : OpenEnd) (s : Status) (got : Option Bytes) (w : ℕ) (got' : Option Bytes) (w' : ℕ) (why : Unreadable) → Tells end got w s got' w' → s ≡ status.UnreadableLog why → end ≡ opening.Unreadable why
told_why (opening.Unreadable was) (status.UnreadableLog said) got w got' w' why tells is = let same : said ≡ why = cc in ap opening.Unreadable (sym tells.0 ∙ same)
told_why (opening.Unreadable was) status.OutOfMemory got w got' w' why tells is = absurd (cc)
told_why opening.Disk status.OpeningFault got w got' w' why tells is = absurd (cc)
told_why opening.Memory status.OutOfMemory got w got' w' why tells is = absurd (cc)
told_why end s got w got' w' why tells is = absurd tells

-- ---- a store that was not opened

pub unopened_session : (s : Status) (got : Option Bytes) (w d : ℕ) (got' : Option Bytes) (w' d' : ℕ) → NotOpened s got w d got' w' d' → IsOfSession s
unopened_session status.Usage got w d got' w' d' closed = closed
unopened_session (status.Serve end) got w d got' w' d' closed = closed
unopened_session (status.Session end) got w d got' w' d' closed = absurd closed
unopened_session (status.Drained last) got w d got' w' d' closed = absurd closed
unopened_session s got w d got' w' d' closed = tt

unopened_bytes : (bytes : Bytes) (s : Status) → IsUnopened s → ByBytes bytes s
unopened_bytes bytes (status.Session end) closed = absurd closed
unopened_bytes bytes (status.Drained last) closed = absurd closed
unopened_bytes bytes s closed = tt

pub some_bytes : (left : Option Bytes) (s : Status) → IsUnopened s → IfSome left (λ bytes. ByBytes bytes s)
some_bytes None s closed = tt
some_bytes (Some bytes) s closed = unopened_bytes bytes s closed

pub unopened_link : (s : Status) (r w r' w' : ℕ) → IsUnopened s → ByLink s r w r' w'
unopened_link (status.Session end) r w r' w' closed = absurd closed
unopened_link s r w r' w' closed = tt

-- ---- a fault that was counted after an opening

pub later_disk : (end : Status) (d m d' : ℕ) → NeverFell d m → ByDisk end m d' → ByDisk end d d'
later_disk (status.Session ended.Disk) d m d' later by = omega (arith, later, by)
later_disk (status.Drained turn.Disk) d m d' later by = omega (arith, later, by)
later_disk (status.Serve serving.Disk) d m d' later by = omega (arith, later, by)
later_disk status.OpeningFault d m d' later by = omega (arith, later, by)
later_disk end d m d' later by = tt

-- and one of the spawner, where children were ended since
pub later_spawner : (end : Status) (f f' f2 : ℕ) → BySpawner end f f' → NeverFell f' f2 → BySpawner end f f2
later_spawner (status.Drained turn.SpawnFault) f f' f2 by later = omega (arith, later, by)
later_spawner (status.Serve serving.TasksFailed) f f' f2 by later = omega (arith, later, by)
later_spawner end f f' f2 by later = tt

pub unopened_spawner : (end : Status) (f f' : ℕ) → IsUnopened end → BySpawner end f f'
unopened_spawner (status.Drained last) f f' closed = absurd closed
unopened_spawner (status.Serve end) f f' closed = absurd closed
unopened_spawner end f f' closed = tt

-- ---- a serve

serve_bytes : (bytes : Bytes) (end : Status) → IsOfServe end → ByBytes bytes end
serve_bytes bytes (status.Session end) of = absurd of
serve_bytes bytes (status.Drained last) of = absurd of
serve_bytes bytes end of = tt

-- no bytes of a source decide how it ends
pub serve_some : (left : Option Bytes) (end : Status) → IsOfServe end → IfSome left (λ bytes. ByBytes bytes end)
serve_some None end of = tt
serve_some (Some bytes) end of = serve_bytes bytes end of

-- and no fault of the source or the sink does
pub serve_link : (end : Status) (r w r' w' : ℕ) → IsOfServe end → ByLink end r w r' w'
serve_link (status.Session end) r w r' w' of = absurd of
serve_link end r w r' w' of = tt
