-- What a whole chunked body is from a place of it on, and how these parts are joined.
use Rattle.std.proofs.Common.{◌≡◌, ℕ, ◌+◌, ◌<◌, ◌≤◌, false, List, [], ◌∷◌, ◌++◌, length, Some, refl, ap, sym, subst, ◌∙◌, append_assoc, append-nil, arith, length-append}
use Rattle.std.specs.Prelude.{nat_eq, All}
use Rattle.std.specs.List.{flat_map}
use Rattle.std.proofs.lemmas.List.Elements.{All-nil, All-cons, All-push}
use Rattle.httparse.specs.Ascii.{line_feed, carriage_return}
use Rattle.httparse.specs.Grammar.{ChunkLine, LineEnd, chunk_size, print_chunk_line, print_end}
use Rattle.mt_http.specs.Body.{BodyState, Told, line_limit, told_from, trailer_limit}
use Rattle.mt_http.specs.Chunk.{chunk_line_size}
use Rattle.mt_http.specs.Chunked.{Chunk, HasNoFeed, IsChunk, IsLine, IsTrailerLine, bytes_of, print_chunk, print_trailer}
use Rattle.mt_http.specs.declared.message.Ending.{Ending}
use Rattle.mt_http.specs.declared.message.Ending.TheVariants.{Whole, Truncated, Bad, TooLarge}
use Rattle.mt_http.specs.declared.stage.Stage.{Stage}
use Rattle.mt_http.specs.declared.stage.Stage.TheVariants as at
use Rattle.mt_http.specs.declared.stage.TrailerLine.{TrailerLine}
use Rattle.mt_http.specs.declared.stage.TrailerLine.TheVariants.{Nothing, Return, Text}
use Rattle.mt_http.proofs.Bodies.{told_over}
use Rattle.mt_http.proofs.ChunkLines.{line_of_size}

-- a whole body, and what follows it
abbrev pub whole : List ℕ → List ℕ → Told
whole body rest = record { body = body; ending = Whole; rest = rest }

-- a state, by its parts
abbrev pub st : Stage → List ℕ → ℕ → ℕ → BodyState
st stage line sizes limit = record { stage = stage; line = line; sizes = sizes; limit = limit }

-- ---- what a whole body is from a place on

-- from a chunk line on, behind chunks of these sizes together
pub record From (sizes limit : ℕ) (bytes body rest : List ℕ) : Type 0 where
  pub chunks : List Chunk
  pub last : ChunkLine
  pub lines : List (List ℕ)
  pub end : LineEnd
  pub each : All IsChunk chunks
  pub last_line : IsLine last
  pub last_size : chunk_size last ≡ 0
  pub each_line : All IsTrailerLine lines
  pub small : length (print_trailer lines end) ≤ trailer_limit
  pub body_is : body ≡ bytes_of chunks
  pub within : sizes + length body ≤ limit
  pub split : bytes ≡ flat_map print_chunk chunks ++ (print_chunk_line last ++ (print_trailer lines end ++ rest))

-- from within a chunk on, of which so many bytes are left
pub record Within (left sizes limit : ℕ) (bytes body rest : List ℕ) : Type 0 where
  pub own : List ℕ
  pub more : List ℕ
  pub inner : List ℕ
  pub size : length own ≡ left
  pub split : bytes ≡ own ++ (carriage_return ∷ line_feed ∷ more)
  pub body_is : body ≡ own ++ inner
  pub tail : From sizes limit more inner rest

-- from the LF behind a chunk on
pub record Fed (sizes limit : ℕ) (bytes body rest : List ℕ) : Type 0 where
  pub more : List ℕ
  pub split : bytes ≡ line_feed ∷ more
  pub tail : From sizes limit more body rest

-- from within a trailer on, of which so many bytes came, and these of its line
pub record Behind (n : ℕ) (line bytes body rest : List ℕ) : Type 0 where
  pub lines : List (List ℕ)
  pub end : LineEnd
  pub each_line : All IsTrailerLine lines
  pub small : n + length (print_trailer lines end) ≤ trailer_limit + length line
  pub split : line ++ bytes ≡ print_trailer lines end ++ rest
  pub body_is : body ≡ []

-- by what came of the line
abbrev pub InTrailer : TrailerLine → ℕ → List ℕ → List ℕ → List ℕ → Type 0
InTrailer Nothing n bytes body rest = Behind n [] bytes body rest
InTrailer Return n bytes body rest = Behind n (carriage_return ∷ []) bytes body rest
InTrailer Text n bytes body rest = (line : List ℕ) → IsTrailerLine line → Behind n line bytes body rest

-- by the stage
abbrev pub What : Stage → (line : List ℕ) (sizes limit : ℕ) (bytes body rest : List ℕ) → Type 0
What at.ChunkLine line sizes limit bytes body rest = HasNoFeed line → From sizes limit (line ++ bytes) body rest
What (at.Chunk n) line sizes limit bytes body rest = 0 < n → line ≡ [] → Within n sizes limit bytes body rest
What at.ChunkReturn line sizes limit bytes body rest = line ≡ [] → Within 0 sizes limit bytes body rest
What at.ChunkFeed line sizes limit bytes body rest = line ≡ [] → Fed sizes limit bytes body rest
What (at.Trailer n line') line sizes limit bytes body rest = InTrailer line' n bytes body rest
What (at.Counted n) line sizes limit bytes body rest = Unit {0}
What (at.Over e) line sizes limit bytes body rest = Unit {0}

-- ---- no other ending is whole

pub IsWhole : Ending → Type 0
IsWhole Whole = Unit {0}
IsWhole Truncated = ⊥
IsWhole Bad = ⊥
IsWhole TooLarge = ⊥

pub not_whole : (e : Ending) → e ≡ Whole → IsWhole e
unfolding IsWhole
not_whole e is = subst IsWhole (sym is) tt

pub bad : Bad ≡ Whole → ⊥
unfolding IsWhole
bad is = not_whole Bad is

pub large : TooLarge ≡ Whole → ⊥
unfolding IsWhole
large is = not_whole TooLarge is

pub cut : Truncated ≡ Whole → ⊥
unfolding IsWhole
cut is = not_whole Truncated is

pub ends : (s : BodyState) (e : Ending) (bytes body rest : List ℕ) → s.stage ≡ at.Over e → told_from s bytes ≡ whole body rest → e ≡ Whole
ends s e bytes body rest is told = ap (λ (t : Told). t.ending) (sym (told_over s e bytes is) ∙ told)

-- ---- a chunk line

pub no_feed : (line : List ℕ) (b : ℕ) → HasNoFeed line → nat_eq b line_feed ≡ false → HasNoFeed (line ++ b ∷ [])
no_feed line b none other = All-push (λ x. nat_eq x line_feed ≡ false) line b none other

pub last_from : (line : List ℕ) (sizes limit : ℕ) (bytes body rest : List ℕ) → length line < line_limit → sizes + 0 ≤ limit → chunk_line_size (line ++ line_feed ∷ []) ≡ Some 0
    → Behind 0 [] bytes body rest → From sizes limit (line ++ line_feed ∷ bytes) body rest
last_from line sizes limit bytes body rest few room size behind =
    let l = line_of_size (line ++ line_feed ∷ []) 0 size in
    let is : line ++ line_feed ∷ [] ≡ print_chunk_line l.0 = l.1.1 ∙ append-nil (print_chunk_line l.0) in
    let long = ap (λ (t : List ℕ). length t) is in
    record {
      chunks = [];
      last = l.0;
      lines = behind.lines;
      end = behind.end;
      each = All-nil IsChunk;
      last_line = record { valid = l.1.0; small = omega (arith, long, few, length-append line (line_feed ∷ [])) };
      last_size = l.2;
      each_line = behind.each_line;
      small = omega (arith, behind.small);
      body_is = behind.body_is;
      within = omega (arith, room, ap (λ (t : List ℕ). length t) behind.body_is);
      split = sym (append_assoc line (line_feed ∷ []) bytes) ∙ ap (λ (t : List ℕ). t ++ bytes) is ∙ ap (λ (t : List ℕ). print_chunk_line l.0 ++ t) behind.split;
    }

pub chunk_from : (line : List ℕ) (n sizes limit : ℕ) (bytes body rest : List ℕ) → length line < line_limit → 0 < n → chunk_line_size (line ++ line_feed ∷ []) ≡ Some n
    → Within n (sizes + n) limit bytes body rest → From sizes limit (line ++ line_feed ∷ bytes) body rest
chunk_from line n sizes limit bytes body rest few some size w =
    let l = line_of_size (line ++ line_feed ∷ []) n size in
    let is : line ++ line_feed ∷ [] ≡ print_chunk_line l.0 = l.1.1 ∙ append-nil (print_chunk_line l.0) in
    let long = ap (λ (t : List ℕ). length t) is in
    let t = w.tail in
    let c : Chunk = record { line = l.0; bytes = w.own } in
    let one : IsChunk c = record { line = record { valid = l.1.0; small = omega (arith, long, few, length-append line (line_feed ∷ [])) }; size = l.2 ∙ sym w.size; some = omega (arith, some, w.size) } in
    let back = print_chunk_line t.last ++ (print_trailer t.lines t.end ++ rest) in
    let inside : bytes ≡ w.own ++ (carriage_return ∷ line_feed ∷ (flat_map print_chunk t.chunks ++ back)) = w.split ∙ ap (λ (m : List ℕ). w.own ++ (carriage_return ∷ line_feed ∷ m)) t.split in
    let shape : print_chunk_line l.0 ++ (w.own ++ (carriage_return ∷ line_feed ∷ (flat_map print_chunk t.chunks ++ back))) ≡ (print_chunk c ++ flat_map print_chunk t.chunks) ++ back = simp append_assoc in
    record {
      chunks = c ∷ t.chunks;
      last = t.last;
      lines = t.lines;
      end = t.end;
      each = All-cons IsChunk c t.chunks one t.each;
      last_line = t.last_line;
      last_size = t.last_size;
      each_line = t.each_line;
      small = t.small;
      body_is = w.body_is ∙ ap (λ (m : List ℕ). w.own ++ m) t.body_is;
      within = omega (arith, t.within, w.size, ap (λ (m : List ℕ). length m) w.body_is, length-append w.own w.inner);
      split = sym (append_assoc line (line_feed ∷ []) bytes) ∙ ap (λ (m : List ℕ). m ++ bytes) is ∙ ap (λ (m : List ℕ). print_chunk_line l.0 ++ m) inside ∙ shape;
    }

-- ---- a trailer

-- a line more
pub line_behind : (n : ℕ) (line bytes body rest : List ℕ) → IsTrailerLine line → Behind (n + 1) [] bytes body rest → Behind n line (line_feed ∷ bytes) body rest
line_behind n line bytes body rest is b =
    let more = print_trailer b.lines b.end in
    let shape : print_trailer (line ∷ b.lines) b.end ≡ line ++ (line_feed ∷ more) = simp append_assoc in
    record {
      lines = line ∷ b.lines;
      end = b.end;
      each_line = All-cons IsTrailerLine line b.lines is b.each_line;
      small = omega (arith, b.small, ap (λ (t : List ℕ). length t) shape, length-append line (line_feed ∷ more));
      split = ap (λ (t : List ℕ). line ++ (line_feed ∷ t)) b.split ∙ sym (append_assoc line (line_feed ∷ more) rest) ∙ ap (λ (t : List ℕ). t ++ rest) (sym shape);
      body_is = b.body_is;
    }

-- a byte more of a line
pub byte_behind : (n : ℕ) (line : List ℕ) (b : ℕ) (bytes body rest : List ℕ) → Behind (n + 1) (line ++ b ∷ []) bytes body rest → Behind n line (b ∷ bytes) body rest
byte_behind n line b bytes body rest w = record {
  lines = w.lines;
  end = w.end;
  each_line = w.each_line;
  small = omega (arith, w.small, length-append line (b ∷ []));
  split = sym (append_assoc line (b ∷ []) bytes) ∙ w.split;
  body_is = w.body_is;
}

-- an empty line
pub empty_behind : (n : ℕ) (end : LineEnd) (line bytes body rest : List ℕ) → n < trailer_limit → print_end end ≡ line ++ line_feed ∷ [] → body ≡ [] → bytes ≡ rest → Behind n line (line_feed ∷ bytes) body rest
empty_behind n end line bytes body rest few is none same = record {
  lines = [];
  end = end;
  each_line = All-nil IsTrailerLine;
  small = omega (arith, few, ap (λ (t : List ℕ). length t) is, length-append line (line_feed ∷ []));
  split = sym (append_assoc line (line_feed ∷ []) bytes) ∙ ap (λ (t : List ℕ). t ++ bytes) (sym is) ∙ ap (λ (t : List ℕ). print_end end ++ t) same;
  body_is = none;
}

pub one_text : (b : ℕ) → nat_eq b line_feed ≡ false → nat_eq b carriage_return ≡ false → IsTrailerLine (b ∷ [])
one_text b other text = record {
  no_feed = All-cons (λ x. nat_eq x line_feed ≡ false) b [] other (All-nil (λ x. nat_eq x line_feed ≡ false));
  some = λ e. absurd (omega (arith, ap (λ (t : List ℕ). length t) e));
  no_return = λ e. let same : b ≡ carriage_return = cc in let yes : nat_eq carriage_return carriage_return ≡ false = subst (λ x. nat_eq x carriage_return ≡ false) same text in cc;
}

pub more_text : (line : List ℕ) (b : ℕ) → HasNoFeed line → 0 < length line → nat_eq b line_feed ≡ false → IsTrailerLine (line ++ b ∷ [])
more_text line b none some other = record {
  no_feed = no_feed line b none other;
  some = λ e. absurd (omega (arith, ap (λ (t : List ℕ). length t) e, length-append line (b ∷ [])));
  no_return = λ e. absurd (omega (arith, some, ap (λ (t : List ℕ). length t) e, length-append line (b ∷ [])));
}

pub some_text : (line : List ℕ) → IsTrailerLine line → 0 < length line
some_text [] is = absurd (is.some refl)
some_text (b ∷ line) is = omega arith
