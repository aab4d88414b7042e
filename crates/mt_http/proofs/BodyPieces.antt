-- Bytes of one line come one by one where none of a body's does.
use Rattle.std.proofs.Common.{◌≡◌, ◌≢◌, ℕ, ◌+◌, ◌-◌, ◌<◌, ◌≤◌, ◌++◌, true, false, List, [], ◌∷◌, length, suc, Option, None, refl, sym, subst, ◌∙◌, arith, length-append, take}
use Rattle.std.proofs.lemmas.List.{length-take-le, get_or-take}
use Rattle.std.specs.Prelude.{get_or, nat_eq, nat_le}
use Rattle.std.proofs.lemmas.Bool.Decides.{nat_tests}
use Rattle.httparse.specs.Ascii.{line_feed}
use Rattle.mt_edge.specs.Stream.{LeftAfter}
use Rattle.mt_http.specs.Body.{BodyState, after_bytes, trailer_byte, trailer_line, next_state, next_at, is_data, is_sound, ended, line_byte, line_limit, line_room, line_room_at, told_from, trailer_limit}
use Rattle.mt_http.specs.BodyReading.{Goes}
use Rattle.mt_http.specs.declared.stage.Stage.{Stage}
use Rattle.mt_http.specs.declared.stage.Stage.TheVariants as at
use Rattle.mt_http.specs.declared.stage.TrailerLine.{TrailerLine}
use Rattle.mt_http.specs.declared.stage.TrailerLine.TheVariants.{Nothing, Return, Text}
use Rattle.mt_http.proofs.Bodies.{told_control}
use Rattle.mt_http.proofs.BodySteps.{Nearer, nearer}

-- so many more bytes of a line may come
pub record HasRoom (s : BodyState) (n : ℕ) : Type 0 where
  pub other : is_data s.stage ≡ false
  pub open_yet : ended s.stage ≡ None
  pub few : n ≤ line_room s + 1

abbrev Stays : ℕ → BodyState → Type 0
Stays n s = HasRoom s n × (is_sound s.stage ≡ true)

not_feed : (b : ℕ) → b ≢ 10 → nat_eq b line_feed ≡ false
not_feed b other = grind (arith, nat_tests, other)

not_full : (most n : ℕ) → n < most → nat_le most n ≡ false
not_full most n few = grind (arith, nat_tests, few)

within : (m : ℕ) → m < trailer_limit → nat_le (m + 1) trailer_limit ≡ true
within m few = grind (arith, nat_tests, few)

in_line : (s : BodyState) (b n : ℕ) → 0 < n → b ≢ 10 → n ≤ line_limit - length s.line → Stays n (line_byte (record s { stage = at.ChunkLine }) b)
in_line s b n some other few =
    let next : line_byte (record s { stage = at.ChunkLine }) b ≡ record s { stage = at.ChunkLine; line = s.line ++ b ∷ [] } = rw (not_full line_limit (length s.line) (omega (arith, few, some)), not_feed b other) in
    subst (Stays n) (sym next) (record { other = refl; open_yet = refl; few = omega (arith, few, some, length-append s.line (b ∷ [])) }, refl)

in_trailer : (s : BodyState) (m : ℕ) (line : TrailerLine) (b n : ℕ) → 0 < n → b ≢ 10 → n ≤ trailer_limit - m → Stays n (trailer_byte (record s { stage = at.Trailer m line }) m line b)
in_trailer s m line b n some other few =
    subst (Stays n) (sym (next line)) (record { other = refl; open_yet = refl; few = omega (arith, few, some) }, within m (omega (arith, few, some)))
  where
    next : (line : TrailerLine) → trailer_byte (record s { stage = at.Trailer m line }) m line b ≡ record s { stage = at.Trailer (m + 1) (trailer_line line b) }
    next Nothing = rw (not_full trailer_limit m (omega (arith, few, some)), not_feed b other)
    next Return = rw (not_full trailer_limit m (omega (arith, few, some)), not_feed b other)
    next Text = rw (not_full trailer_limit m (omega (arith, few, some)))

stays_at : (stage : Stage) (s : BodyState) (b n : ℕ) → is_data stage ≡ false → ended stage ≡ None → 0 < n → b ≢ 10 → n ≤ line_room_at stage (length s.line) → Stays n (next_at stage (record s { stage = stage }) b)
stays_at (at.Counted m) s b n other open_yet some plain few = cc
stays_at (at.Chunk m) s b n other open_yet some plain few = cc
stays_at (at.Over e) s b n other open_yet some plain few = cc
stays_at at.ChunkLine s b n other open_yet some plain few = in_line s b n some plain few
stays_at at.ChunkReturn s b n other open_yet some plain few = absurd (omega (arith, few, some))
stays_at at.ChunkFeed s b n other open_yet some plain few = absurd (omega (arith, few, some))
stays_at (at.Trailer m line) s b n other open_yet some plain few = in_trailer s m line b n some plain few

-- a byte of a line that goes on
stays : (s : BodyState) (b n : ℕ) → HasRoom s (suc n) → 0 < n → b ≢ 10 → Stays n (next_state s b)
stays s b n room some plain = stays_at s.stage s b n room.other room.open_yet some plain (omega (arith, room.few))

-- no byte but the last is an LF
abbrev pub IsLine : List ℕ → Type 0
IsLine piece = (k : ℕ) → k + 1 < length piece → get_or piece k 0 ≢ 10

-- each of these bytes comes where none of the body's does
abbrev pub Takes : BodyState → List ℕ → Type 0
Takes s [] = Unit {0}
Takes s (b ∷ bytes) = (is_data s.stage ≡ false) × Takes (next_state s b) bytes

pub takes : (s : BodyState) (piece : List ℕ) → HasRoom s (length piece) → IsLine piece → Takes s piece
takes s [] room line = tt
takes s (b ∷ []) room line = (room.other, tt)
takes s (b ∷ c ∷ piece) room line =
    let step = stays s b (length (c ∷ piece)) room (omega arith) (line 0 (omega arith)) in
    (room.other, takes (next_state s b) (c ∷ piece) step.0 (λ k below. line (suc k) (omega (arith, below))))

leads : (s : BodyState) (piece : List ℕ) → HasRoom s (length piece) → IsLine piece → (rest : List ℕ) → told_from s (piece ++ rest) ≡ told_from (after_bytes s piece) rest
leads s [] room line rest = refl
leads s (b ∷ []) room line rest = told_control s b rest room.other room.open_yet
leads s (b ∷ c ∷ piece) room line rest =
    let step = stays s b (length (c ∷ piece)) room (omega arith) (line 0 (omega arith)) in
    told_control s b (c ∷ piece ++ rest) room.other room.open_yet ∙ leads (next_state s b) (c ∷ piece) step.0 (λ k below. line (suc k) (omega (arith, below))) rest

-- a piece of one line
pub goes_by_piece : (s : BodyState) (left : Option (List ℕ)) (piece : List ℕ) (left' : Option (List ℕ)) → HasRoom s (length piece) → IsLine piece → LeftAfter left piece left' → Goes s left [] (after_bytes s piece) left'
goes_by_piece s left piece left' room line gone = record { used = piece; gone = gone; leads = record { leads = leads s piece room line } }

pub nearer_by_piece : (s : BodyState) (piece : List ℕ) → HasRoom s (length piece) → is_sound s.stage ≡ true → IsLine piece → 0 < length piece → Nearer s (after_bytes s piece)
nearer_by_piece s [] room sound line some = absurd (omega (arith, some))
nearer_by_piece s (b ∷ []) room sound line some = nearer s b room.other room.open_yet sound
nearer_by_piece s (b ∷ c ∷ piece) room sound line some =
    let step = stays s b (length (c ∷ piece)) room (omega arith) (line 0 (omega arith)) in
    let first = nearer s b room.other room.open_yet sound in
    let more = nearer_by_piece (next_state s b) (c ∷ piece) step.0 step.1 (λ k below. line (suc k) (omega (arith, below))) (omega arith) in
    (omega (arith, first.0, more.0), omega (arith, first.1, more.1))

-- the front of a read within a line
pub line_front : (n : ℕ) (into : List ℕ) → n ≤ length into → ((k : ℕ) → k + 1 < n → get_or into k 0 ≢ 10) → IsLine (take n into)
line_front n into few line k below =
    let size = length-take-le n into few in
    subst (λ (x : ℕ). x ≢ 10) (sym (get_or-take n into k 0 (omega (arith, size, below)))) (line k (omega (arith, size, below)))
