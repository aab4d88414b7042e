-- Each byte that is none of a body's leads nearer to one that is, and lets no more bytes come
use Rattle.std.proofs.Common.{◌≡◌, ℕ, ◌+◌, ◌-◌, ◌<◌, ◌≤◌, Bool, true, false, [], ◌∷◌, ◌++◌, length, Option, Some, None, refl, arith, length-append}
use Rattle.std.specs.Prelude.{nat_eq, nat_le, nat_lt, if◌then◌else◌}
use Rattle.std.proofs.lemmas.Bool.{ltb-false, leb-true, leb-false}
use Rattle.httparse.specs.Ascii.{line_feed, carriage_return}
use Rattle.mt_http.specs.Body.{BodyState, over, after_line, line_byte, trailer_byte, trailer_line, next_state, next_at, is_data, is_sound, ended, most_left, line_limit, trailer_limit}
use Rattle.mt_http.specs.Chunk.{chunk_line_size}
use Rattle.mt_http.specs.declared.message.Ending.TheVariants.{Whole, Bad, TooLarge}
use Rattle.mt_http.specs.declared.stage.Stage.{Stage}
use Rattle.mt_http.specs.declared.stage.Stage.TheVariants as at
use Rattle.mt_http.specs.declared.stage.TrailerLine.{TrailerLine}
use Rattle.mt_http.specs.declared.stage.TrailerLine.TheVariants.{Nothing, Return, Text}

-- at most so many bytes until the next one of the body
abbrev pub steps_left_at : Stage → ℕ → ℕ
steps_left_at at.ChunkLine n = 65540 + (257 - n)
steps_left_at at.ChunkReturn n = 66000
steps_left_at at.ChunkFeed n = 65900
steps_left_at (at.Trailer m line) n = 65537 - m
steps_left_at _ n = 0

abbrev pub steps_left : BodyState → ℕ
steps_left s = steps_left_at s.stage (length s.line)

-- fewer steps are left, and no more bytes
abbrev pub Nearer : BodyState → BodyState → Type 0
Nearer old new = (steps_left new < steps_left old) × (most_left new ≤ most_left old)

-- after the size of a chunk line
size_near : (s : BodyState) (size : Option ℕ) → Nearer (record s { stage = at.ChunkLine }) (after_line s size)
size_near s None = (omega arith, omega arith)
size_near s (Some n) = by_sum (nat_lt s.limit (s.sizes + n)) refl
  where
    by_sum : (t : Bool) → nat_lt s.limit (s.sizes + n) ≡ t → Nearer (record s { stage = at.ChunkLine }) (if t then over s TooLarge else if nat_eq n 0 then record s { stage = at.Trailer 0 Nothing; line = [] } else record s { stage = at.Chunk n; line = []; sizes = s.sizes + n })
    by_sum true is = (omega arith, omega arith)
    by_sum false is =
        let few = ltb-false s.limit (s.sizes + n) is in
        elim (nat_eq n 0) as (λ t. Nearer (record s { stage = at.ChunkLine }) (if t then record s { stage = at.Trailer 0 Nothing; line = [] } else record s { stage = at.Chunk n; line = []; sizes = s.sizes + n })) [
          | true ↦ (omega arith, omega arith)
          | false ↦ (omega arith, omega arith)
        ]

line_near : (s : BodyState) (b : ℕ) → Nearer (record s { stage = at.ChunkLine }) (line_byte (record s { stage = at.ChunkLine }) b)
line_near s b = by_size (nat_le line_limit (length s.line)) refl
  where
    by_size : (t : Bool) → nat_le line_limit (length s.line) ≡ t → Nearer (record s { stage = at.ChunkLine }) (if t then over s Bad else if nat_eq b line_feed then after_line s (chunk_line_size (s.line ++ b ∷ [])) else record s { stage = at.ChunkLine; line = s.line ++ b ∷ [] })
    by_size true is = (omega arith, omega arith)
    by_size false is =
        let few = leb-false line_limit (length s.line) is in
        elim (nat_eq b line_feed) as (λ t. Nearer (record s { stage = at.ChunkLine }) (if t then after_line s (chunk_line_size (s.line ++ b ∷ [])) else record s { stage = at.ChunkLine; line = s.line ++ b ∷ [] })) [
          | true ↦ size_near s (chunk_line_size (s.line ++ b ∷ []))
          | false ↦ (omega (arith, length-append s.line (b ∷ [])), omega arith)
        ]

trailer_near : (s : BodyState) (n : ℕ) (line : TrailerLine) (b : ℕ) → n ≤ trailer_limit → Nearer (record s { stage = at.Trailer n line }) (trailer_byte s n line b)
trailer_near s n Text b few =
    elim (nat_le trailer_limit n) as (λ t. Nearer (record s { stage = at.Trailer n Text }) (if t then over s Bad else record s { stage = at.Trailer (n + 1) (trailer_line Text b) })) [
      | true ↦ (omega arith, omega arith)
      | false ↦ (omega arith, omega arith)
    ]
trailer_near s n Nothing b few =
    elim (nat_le trailer_limit n) as (λ t. Nearer (record s { stage = at.Trailer n Nothing }) (if t then over s Bad else if nat_eq b line_feed then over s Whole else record s { stage = at.Trailer (n + 1) (trailer_line Nothing b) })) [
      | true ↦ (omega arith, omega arith)
      | false ↦ elim (nat_eq b line_feed) as (λ t. Nearer (record s { stage = at.Trailer n Nothing }) (if t then over s Whole else record s { stage = at.Trailer (n + 1) (trailer_line Nothing b) })) [
        | true ↦ (omega arith, omega arith)
        | false ↦ (omega arith, omega arith)
      ]
    ]
trailer_near s n Return b few =
    elim (nat_le trailer_limit n) as (λ t. Nearer (record s { stage = at.Trailer n Return }) (if t then over s Bad else if nat_eq b line_feed then over s Whole else record s { stage = at.Trailer (n + 1) (trailer_line Return b) })) [
      | true ↦ (omega arith, omega arith)
      | false ↦ elim (nat_eq b line_feed) as (λ t. Nearer (record s { stage = at.Trailer n Return }) (if t then over s Whole else record s { stage = at.Trailer (n + 1) (trailer_line Return b) })) [
        | true ↦ (omega arith, omega arith)
        | false ↦ (omega arith, omega arith)
      ]
    ]

near_at : (stage : Stage) (s : BodyState) (b : ℕ) → is_data stage ≡ false → ended stage ≡ None → is_sound stage ≡ true → Nearer (record s { stage = stage }) (next_at stage (record s { stage = stage }) b)
near_at (at.Counted n) s b other open_yet sound = cc
near_at (at.Chunk n) s b other open_yet sound = cc
near_at (at.Over e) s b other open_yet sound = cc
near_at at.ChunkLine s b other open_yet sound = line_near s b
near_at at.ChunkReturn s b other open_yet sound =
    elim (nat_eq b carriage_return) as (λ t. Nearer (record s { stage = at.ChunkReturn }) (if t then record s { stage = at.ChunkFeed } else over s Bad)) [
      | true ↦ (omega arith, omega arith)
      | false ↦ (omega arith, omega arith)
    ]
near_at at.ChunkFeed s b other open_yet sound =
    elim (nat_eq b line_feed) as (λ t. Nearer (record s { stage = at.ChunkFeed }) (if t then record s { stage = at.ChunkLine } else over s Bad)) [
      | true ↦ (omega arith, omega arith)
      | false ↦ (omega arith, omega arith)
    ]
near_at (at.Trailer n line) s b other open_yet sound = trailer_near (record s { stage = at.Trailer n line }) n line b (leb-true n trailer_limit sound)

pub nearer : (s : BodyState) (b : ℕ) → is_data s.stage ≡ false → ended s.stage ≡ None → is_sound s.stage ≡ true → Nearer s (next_state s b)
nearer s b other open_yet sound = near_at s.stage s b other open_yet sound
