-- What the number of a status says.
use Rattle.std.proofs.Common.{◌≡◌, ◌≢◌, ◌<◌, ◌+◌, ℕ, List, Option, Ok, Err, inl, inr, ◌⊎◌, refl, sym, subst, ◌∙◌, arith}
use Rattle.std.specs.Prelude.{IfSome}
use Rattle.std.proofs.lemmas.Option.{IfSome_then}
use Rattle.mt_base.specs.Counts.{Rose}
use Rattle.mt_opening.specs.History.{Bytes}
use Rattle.mt_opening.specs.declared.opening.Unreadable.{Unreadable}
use Rattle.mt_connection.specs.Outcomes.{ByEnd, Outcome, OutcomeAt}
use Rattle.mt_connection.specs.declared.end.ConnectionEnd.{ConnectionEnd}
use Rattle.mt_connection.specs.declared.end.ConnectionEnd.TheVariants as ended
use Rattle.mt_connection.proofs.Completeness.{one_outcome}
use Rattle.mt_settings.specs.Words.{settings_of}
use Rattle.mt_settings.specs.declared.fault.UsageFault.{UsageFault}
use Rattle.mt_settings.specs.declared.settings.Settings.{Settings}
use Rattle.mt_server.specs.Statuses.{Asked, ByBytes, ByDisk, ByDoor, ByLink, BySpawner, IsAnswered, IsBegun, IsBroken, IsOfServe, IsOfSession, IsSilent, IsUnopened, WantsService, code_of, most_messages}
use Rattle.mt_runner.specs.declared.turn.Turn.{Turn}
use Rattle.mt_runner.specs.declared.turn.Turn.TheVariants as turn
use Rattle.mt_server.specs.declared.status.ServeEnd.{ServeEnd}
use Rattle.mt_server.specs.declared.status.ServeEnd.TheVariants as serving
use Rattle.mt_server.specs.declared.status.Status.{Status}
use Rattle.mt_server.specs.declared.status.Status.TheVariants as status

-- ---- the status of a number

-- a number that is none of those
by_number : {n : ℕ} → (n ≡ 0) ⊎ (n ≡ 6) ⊎ (n ≡ 7) → (n ≢ 0) × (n ≢ 6) × (n ≢ 7) → ⊥
by_number is none = elim is [ inl a ↦ none.0 a | inr (inl b) ↦ none.1 b | inr (inr c) ↦ none.2 c ]

pub is_usage : (s : Status) → code_of s ≡ 1 → s ≡ status.Usage
is_usage status.Usage is = refl
is_usage (status.Session ended.Ended) is = absurd (omega (arith, is))
is_usage (status.Serve serving.Served) is = absurd (omega (arith, is))
is_usage (status.Drained turn.Idle) is = absurd (omega (arith, is))
is_usage s is = absurd (omega (arith, is))

pub is_unreadable : (s : Status) → code_of s ≡ 2 → (why : Unreadable) × (s ≡ status.UnreadableLog why)
is_unreadable (status.UnreadableLog why) is = (why, refl)
is_unreadable (status.Session ended.Ended) is = absurd (omega (arith, is))
is_unreadable (status.Serve serving.Served) is = absurd (omega (arith, is))
is_unreadable (status.Drained turn.Idle) is = absurd (omega (arith, is))
is_unreadable s is = absurd (omega (arith, is))

pub is_truncated : (s : Status) → code_of s ≡ 11 → s ≡ status.Session ended.Truncated
is_truncated (status.Session ended.Truncated) is = refl
is_truncated (status.Serve serving.Served) is = absurd (omega (arith, is))
is_truncated (status.Drained turn.Idle) is = absurd (omega (arith, is))
is_truncated s is = absurd (omega (arith, is))

pub is_refused : (s : Status) → code_of s ≡ 12 → s ≡ status.Session ended.Refused
is_refused (status.Session ended.Refused) is = refl
is_refused (status.Serve serving.Served) is = absurd (omega (arith, is))
is_refused (status.Drained turn.Idle) is = absurd (omega (arith, is))
is_refused s is = absurd (omega (arith, is))

pub is_many : (s : Status) → code_of s ≡ 13 → s ≡ status.Session ended.Many
is_many (status.Session ended.Many) is = refl
is_many (status.Serve serving.Served) is = absurd (omega (arith, is))
is_many (status.Drained turn.Idle) is = absurd (omega (arith, is))
is_many s is = absurd (omega (arith, is))

pub is_no_link : (s : Status) → code_of s ≡ 10 → s ≡ status.Serve serving.NoLink
is_no_link (status.Serve serving.NoLink) is = refl
is_no_link (status.Session ended.Ended) is = absurd (omega (arith, is))
is_no_link (status.Drained turn.Idle) is = absurd (omega (arith, is))
is_no_link s is = absurd (omega (arith, is))

-- what answered says of a session: it was drained; and of a serve
pub is_drained : (s : Status) → IsOfSession s → IsAnswered (code_of s) → (last : Turn) × (s ≡ status.Drained last)
is_drained (status.Drained last) of is = (last, refl)
is_drained (status.Session ended.Ended) of is = absurd of
is_drained (status.Serve end) of is = absurd of
is_drained s of is = absurd (by_number is ((λ e. omega (arith, e)), (λ e. omega (arith, e)), (λ e. omega (arith, e))))

answered_serve : (end : ServeEnd) → IsAnswered (code_of (status.Serve end)) → (wanted t f t' f' : ℕ) → ByDoor (status.Serve end) wanted t f t' f' → t' ≡ t + wanted
answered_serve serving.Served is wanted t f t' f' by = by
answered_serve serving.TasksFailed is wanted t f t' f' by = by
answered_serve serving.TasksPending is wanted t f t' f' by = by
answered_serve end is wanted t f t' f' by = absurd (by_number is ((λ e. omega (arith, e)), (λ e. omega (arith, e)), (λ e. omega (arith, e))))

pub all_links : (s : Status) → IsOfServe s → IsAnswered (code_of s) → (wanted t f t' f' : ℕ) → ByDoor s wanted t f t' f' → t' ≡ t + wanted
all_links (status.Serve end) of is wanted t f t' f' by = answered_serve end is wanted t f t' f' by
all_links (status.Session end) of is wanted t f t' f' by = absurd of
all_links (status.Drained last) of is wanted t f t' f' by = absurd of
all_links s of is wanted t f t' f' by = absurd (by_number is ((λ e. omega (arith, e)), (λ e. omega (arith, e)), (λ e. omega (arith, e))))

-- ---- a count that rose

pub read_rose : (s : Status) (r w r' w' : ℕ) → code_of s ≡ 3 → ByLink s r w r' w' → Rose r r'
read_rose (status.Session ended.SourceFault) r w r' w' is by = by
read_rose (status.Serve serving.Served) r w r' w' is by = absurd (omega (arith, is))
read_rose (status.Drained turn.Idle) r w r' w' is by = absurd (omega (arith, is))
read_rose s r w r' w' is by = absurd (omega (arith, is))

pub write_rose : (s : Status) (r w r' w' : ℕ) → code_of s ≡ 4 → ByLink s r w r' w' → Rose w w'
write_rose (status.Session ended.SinkFault) r w r' w' is by = by
write_rose (status.Serve serving.Served) r w r' w' is by = absurd (omega (arith, is))
write_rose (status.Drained turn.Idle) r w r' w' is by = absurd (omega (arith, is))
write_rose s r w r' w' is by = absurd (omega (arith, is))

pub disk_rose : (s : Status) (d d' : ℕ) → code_of s ≡ 5 → ByDisk s d d' → Rose d d'
disk_rose (status.Session ended.Disk) d d' is by = by
disk_rose (status.Serve serving.Disk) d d' is by = by
disk_rose status.OpeningFault d d' is by = by
disk_rose (status.Drained turn.Disk) d d' is by = by
disk_rose s d d' is by = absurd (omega (arith, is))

pub spawn_rose : (s : Status) (f f' : ℕ) → code_of s ≡ 6 → BySpawner s f f' → Rose f f'
spawn_rose (status.Drained turn.SpawnFault) f f' is by = by
spawn_rose (status.Serve serving.TasksFailed) f f' is by = by
spawn_rose (status.Session ended.Ended) f f' is by = absurd (omega (arith, is))
spawn_rose s f f' is by = absurd (omega (arith, is))

-- ---- a store that was not opened

pub is_unopened : (s : Status) → ¬ (IsBegun s) → IsUnopened s
is_unopened (status.Session end) never = never tt
is_unopened (status.Serve end) never = never tt
is_unopened (status.Drained last) never = never tt
is_unopened s never = tt

pub is_silent : (s : Status) → IsUnopened s → code_of s ≢ 1 → code_of s ≢ 2 → IsSilent s
is_silent status.Usage closed no_one no_two = no_one refl
is_silent (status.UnreadableLog why) closed no_one no_two = no_two refl
is_silent (status.Session end) closed no_one no_two = closed
is_silent (status.Serve end) closed no_one no_two = closed
is_silent (status.Drained last) closed no_one no_two = closed
is_silent s closed no_one no_two = tt

pub unopened_numbers : (s : Status) → IsUnopened s → code_of s ≢ 1 → (code_of s ≡ 2) ⊎ (code_of s ≡ 5) ⊎ (code_of s ≡ 8)
unopened_numbers status.Usage closed no_one = absurd (no_one refl)
unopened_numbers (status.UnreadableLog why) closed no_one = inl refl
unopened_numbers status.OpeningFault closed no_one = inr (inl refl)
unopened_numbers status.OutOfMemory closed no_one = inr (inr refl)
unopened_numbers (status.Session end) closed no_one = absurd closed
unopened_numbers (status.Serve end) closed no_one = absurd closed
unopened_numbers (status.Drained last) closed no_one = absurd closed

-- words that ask for a service are not refused
wanted_read : (words : List Bytes) (settings : Settings) → WantsService words settings → settings_of words ≡ Ok settings
wanted_read words settings wants = elim wants [ inl session ↦ session.0 | inr serve ↦ serve.1.1 ]

pub not_usage : (words : List Bytes) (settings : Settings) → WantsService words settings → (s : Status) → (s ≡ status.Usage → (fault : UsageFault) × (settings_of words ≡ Err fault)) → code_of s ≢ 1
not_usage words settings wants s usage is = let wrong = usage (is_usage s is) in let both : Ok settings ≡ Err wrong.0 = sym (wanted_read words settings wants) ∙ wrong.1 in absurd (cc)

-- ---- a session by its bytes

-- what the bytes lead to is what the status asks for
end_asked : (bytes : Bytes) (end : ConnectionEnd) (o : Outcome) → IsOfSession (status.Session end) → ByEnd most_messages bytes end → OutcomeAt most_messages bytes o → IsBroken (code_of (status.Session end)) ⊎ Asked o (code_of (status.Session end))
end_asked bytes ended.Ended o of by at = absurd of
end_asked bytes ended.Truncated o of by at = inr (subst (λ (o : Outcome). Asked o 11) (one_outcome most_messages bytes Outcome.CutShort o by at) refl)
end_asked bytes ended.Refused o of by at = inr (subst (λ (o : Outcome). Asked o 12) (one_outcome most_messages bytes Outcome.Malformed o by at) refl)
end_asked bytes ended.Many o of by at = inr (subst (λ (o : Outcome). Asked o 13) (one_outcome most_messages bytes Outcome.TooMany o by at) refl)
end_asked bytes ended.SourceFault o of by at = inl (inr (inr (inl refl)))
end_asked bytes ended.SinkFault o of by at = inl (inr (inr (inr (inl refl))))
end_asked bytes ended.Disk o of by at = inl (inr (inr (inr (inr (inl refl)))))
end_asked bytes ended.Memory o of by at = inl (inr (inr (inr (inr (inr (inl refl))))))
end_asked bytes ended.Full o of by at = inl (inr (inr (inr (inr (inr (inr refl))))))

-- a session that was drained: all was answered, or its last turn broke
drained_asked : (bytes : Bytes) (last : Turn) (o : Outcome) → ByEnd most_messages bytes ended.Ended → OutcomeAt most_messages bytes o → IsBroken (code_of (status.Drained last)) ⊎ Asked o (code_of (status.Drained last))
drained_asked bytes last o by at = subst (λ (o : Outcome). IsBroken (code_of (status.Drained last)) ⊎ Asked o (code_of (status.Drained last))) (one_outcome most_messages bytes Outcome.Closed o by at) (number last)
  where
    number : (last : Turn) → IsBroken (code_of (status.Drained last)) ⊎ IsAnswered (code_of (status.Drained last))
    number turn.Idle = inr (inl refl)
    number turn.SpawnFault = inr (inr (inl refl))
    number turn.NotYet = inr (inr (inr refl))
    number (turn.Closed job) = inr (inr (inr refl))
    number (turn.Committed task) = inr (inr (inr refl))
    number turn.Disk = inl (inr (inr (inr (inr (inl refl)))))
    number turn.Memory = inl (inr (inr (inr (inr (inr (inl refl))))))
    number turn.Full = inl (inr (inr (inr (inr (inr (inr refl))))))

session_asked : (bytes : Bytes) (s : Status) (o : Outcome) → IsOfSession s → ByBytes bytes s → OutcomeAt most_messages bytes o → IsBroken (code_of s) ⊎ Asked o (code_of s)
session_asked bytes (status.Session end) o of by at = end_asked bytes end o of by at
session_asked bytes (status.Drained last) o of by at = drained_asked bytes last o by at
session_asked bytes status.Usage o of by at = absurd of
session_asked bytes (status.Serve end) o of by at = absurd of
session_asked bytes (status.UnreadableLog why) o of by at = inl (inr (inl refl))
session_asked bytes status.OpeningFault o of by at = inl (inr (inr (inr (inr (inl refl)))))
session_asked bytes status.OutOfMemory o of by at = inl (inr (inr (inr (inr (inr (inl refl))))))

pub asked_of : (left : Option Bytes) (s : Status) (result : ℕ) → result ≡ code_of s → IsOfSession s → IfSome left (λ bytes. ByBytes bytes s) → IfSome left (λ bytes. (o : Outcome) → OutcomeAt most_messages bytes o → IsBroken result ⊎ Asked o result)
asked_of left s result is of by = IfSome_then left by (λ bytes by o at. subst (λ (r : ℕ). IsBroken r ⊎ Asked o r) (sym is) (session_asked bytes s o of by at))

-- ---- a serve

-- the numbers of a serve
abbrev pub IsServeNumber : ℕ → Type 0
IsServeNumber r = (r ≡ 0) ⊎ (r ≡ 2) ⊎ (r ≡ 5) ⊎ (r ≡ 6) ⊎ (r ≡ 7) ⊎ (r ≡ 8) ⊎ (r ≡ 9) ⊎ (r ≡ 10)

pub serve_numbers : (s : Status) → IsOfServe s → IsServeNumber (code_of s)
serve_numbers status.Usage of = absurd of
serve_numbers (status.Session end) of = absurd of
serve_numbers (status.Drained last) of = absurd of
serve_numbers (status.UnreadableLog why) of = inr (inl refl)
serve_numbers status.OpeningFault of = inr (inr (inl refl))
serve_numbers status.OutOfMemory of = inr (inr (inr (inr (inr (inl refl)))))
serve_numbers (status.Serve serving.Served) of = inl refl
serve_numbers (status.Serve serving.Disk) of = inr (inr (inl refl))
serve_numbers (status.Serve serving.TasksFailed) of = inr (inr (inr (inl refl)))
serve_numbers (status.Serve serving.TasksPending) of = inr (inr (inr (inr (inl refl))))
serve_numbers (status.Serve serving.Memory) of = inr (inr (inr (inr (inr (inl refl)))))
serve_numbers (status.Serve serving.LogFull) of = inr (inr (inr (inr (inr (inr (inl refl))))))
serve_numbers (status.Serve serving.NoLink) of = inr (inr (inr (inr (inr (inr (inr refl))))))
serve_numbers (status.Serve serving.Spent) of = inr (inr (inr (inr (inr (inl refl)))))

-- a serve whose log could be read was begun, or said nothing
pub serve_silent : (s : Status) → IsOfServe s → code_of s ≢ 2 → IsBegun s ⊎ IsSilent s
serve_silent status.Usage of no_two = absurd of
serve_silent (status.Session end) of no_two = absurd of
serve_silent (status.Drained last) of no_two = absurd of
serve_silent (status.UnreadableLog why) of no_two = absurd (no_two refl)
serve_silent status.OpeningFault of no_two = inr tt
serve_silent status.OutOfMemory of no_two = inr tt
serve_silent (status.Serve end) of no_two = inl tt

pub fewer_links : (s : Status) (wanted t f t' f' : ℕ) → s ≡ status.Serve serving.NoLink → ByDoor s wanted t f t' f' → t' < t + wanted
fewer_links s wanted t f t' f' is by = (subst (λ (s : Status). ByDoor s wanted t f t' f') is by).0
