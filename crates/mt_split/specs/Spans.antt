-- Parts of a text, as places in it.
use Rattle.std.specs.Prelude.{◌≡◌, ℕ, ◌+◌, ◌<◌, ◌≤◌, List, [], length, take, drop, slice_index_or}
use Rattle.std.specs.List.{flat_map, All}
use Rattle.mt_split.specs.declared.key.KeyRule.{KeyRule}
use Rattle.mt_split.specs.declared.parts.Span.{Span}
use Rattle.mt_split.specs.Partition.{part_of}

-- the bytes that these spans of a text name
abbrev pub bytes_in : List ℕ → List Span → List ℕ
bytes_in text spans = flat_map (λ s. take s.len (drop s.from text)) spans

-- a span lies within a text
abbrev pub IsWithin : List ℕ → Span → Type 0
IsWithin text s = s.from + s.len ≤ length text

-- for each reducer of n, the spans of the lines that it gets
pub record AreParts (text : List ℕ) (n : ℕ) (rule : KeyRule) (parts : List (List Span)) : Type 0 where
  pub count : length parts ≡ n
  pub within : (reducer : ℕ) → All (IsWithin text) (slice_index_or parts reducer [])
  pub part : (reducer : ℕ) → reducer < n → bytes_in text (slice_index_or parts reducer []) ≡ part_of text n rule reducer
