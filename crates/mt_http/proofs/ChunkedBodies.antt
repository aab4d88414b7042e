-- A chunked body of the grammar is read as one
use Rattle.std.proofs.Common.{◌≡◌, ℕ, ◌+◌, ◌-◌, ◌<◌, ◌≤◌, Bool, true, false, List, [], ◌∷◌, ◌++◌, length, Option, Some, None, refl, ap, sym, subst, ◌∙◌, append_assoc, append-nil, length-append, arith, rules}
use Rattle.std.specs.Prelude.{nat_eq, nat_le, nat_lt, All, if◌then◌else◌}
use Rattle.std.specs.List.{flat_map}
use Rattle.std.specs.Char.{is_ascii_hexdigit}
use Rattle.std.proofs.lemmas.Bool.{eqb-true, false_from_ne_true, le-ltb, lt-leb, ne_eqb}
use Rattle.std.proofs.lemmas.List.Elements.{All-head, All-tail, All-cons, All-append}
use Rattle.httparse.specs.Ascii.{semicolon, line_feed, carriage_return}
use Rattle.httparse.specs.Grammar.{LineEnd, lf, crlf, AllPass, is_ows, is_extension_byte, ChunkLine, IsChunkLine, IsExtension, print_extension, print_chunk_line, print_end, chunk_size}
use Rattle.mt_http.specs.Body.{BodyState, over, after_line, line_byte, trailer_byte, trailer_line, told_from, first_state, in_chunk, line_limit, trailer_limit}
use Rattle.mt_http.specs.BodyReading.{with_bytes}
use Rattle.mt_http.specs.Chunk.{chunk_line_size}
use Rattle.mt_http.specs.Chunked.{Chunk, print_chunk, IsLine, IsChunk, bytes_of, HasNoFeed, IsTrailerLine, print_trailer, ChunksAreRead}
use Rattle.mt_http.specs.declared.framing.Framing.TheVariants.{Chunked}
use Rattle.mt_http.specs.declared.message.Ending.TheVariants.{Whole}
use Rattle.mt_http.specs.declared.stage.Stage.TheVariants as at
use Rattle.mt_http.specs.declared.stage.TrailerLine.{TrailerLine}
use Rattle.mt_http.specs.declared.stage.TrailerLine.TheVariants.{Nothing, Return, Text}
use Rattle.mt_http.proofs.Bodies.{told_over, told_data}
use Rattle.mt_http.proofs.BodyReadings.{with_both}
use Rattle.mt_http.proofs.ChunkLines.{size_of_line}

-- ---- a chunk line

abbrev at_line : BodyState → List ℕ → BodyState
at_line s line = record s { stage = at.ChunkLine; line = line }

-- its bytes up to the LF, and then what it tells
line_told : (s : BodyState) (pre mid rest : List ℕ) → HasNoFeed mid → length (pre ++ (mid ++ line_feed ∷ [])) ≤ line_limit
    → told_from (at_line s pre) (mid ++ line_feed ∷ rest) ≡ told_from (after_line s (chunk_line_size (pre ++ (mid ++ line_feed ∷ [])))) rest
unfolding told_from
line_told s pre [] rest none few =
    let room : nat_le line_limit (length pre) ≡ false = lt-leb line_limit (length pre) (omega (arith, length-append pre (line_feed ∷ []))) in
    rw room
line_told s pre (x ∷ mid) rest none few =
    let room : nat_le line_limit (length pre) ≡ false = lt-leb line_limit (length pre) (omega (arith, length-append pre (x ∷ (mid ++ line_feed ∷ [])))) in
    let other : nat_eq x line_feed ≡ false = All-head (λ b. nat_eq b line_feed ≡ false) x mid none in
    let same = append_assoc pre (x ∷ []) (mid ++ line_feed ∷ []) in
    let next : line_byte (at_line s pre) x ≡ at_line s (pre ++ x ∷ []) = rw (room, other) in
    ap (λ t. told_from t (mid ++ line_feed ∷ rest)) next
    ∙ line_told s (pre ++ x ∷ []) mid rest (All-tail (λ b. nat_eq b line_feed ≡ false) x mid none) (subst (λ (l : List ℕ). length l ≤ line_limit) (sym same) few)
    ∙ ap (λ l. told_from (after_line s (chunk_line_size l)) rest) same

none_feed : HasNoFeed []
none_feed = search rules

all_no_feed : (test : ℕ → Bool) → ((x : ℕ) → test x ≡ true → nat_eq x line_feed ≡ false) → (bytes : List ℕ) → AllPass test bytes → HasNoFeed bytes
all_no_feed test each [] pass = none_feed
all_no_feed test each (x ∷ bytes) pass =
    All-cons (λ b. nat_eq b line_feed ≡ false) x bytes (each x (All-head (λ v. test v ≡ true) x bytes pass)) (all_no_feed test each bytes (All-tail (λ v. test v ≡ true) x bytes pass))

digit_no_feed : (x : ℕ) → is_ascii_hexdigit x ≡ true → nat_eq x line_feed ≡ false
digit_no_feed x is = false_from_ne_true (nat_eq x line_feed) (λ e. let same = eqb-true x line_feed e in let bad : is_ascii_hexdigit line_feed ≡ true = subst (λ y. is_ascii_hexdigit y ≡ true) same is in cc)

ows_no_feed : (x : ℕ) → is_ows x ≡ true → nat_eq x line_feed ≡ false
ows_no_feed x is = false_from_ne_true (nat_eq x line_feed) (λ e. let same = eqb-true x line_feed e in let bad : is_ows line_feed ≡ true = subst (λ y. is_ows y ≡ true) same is in cc)

extension_no_feed : (x : ℕ) → is_extension_byte x ≡ true → nat_eq x line_feed ≡ false
extension_no_feed x is = false_from_ne_true (nat_eq x line_feed) (λ e. let same = eqb-true x line_feed e in let bad : is_extension_byte line_feed ≡ true = subst (λ y. is_extension_byte y ≡ true) same is in cc)

no_feed_extension : (e : Option (List ℕ)) → IsExtension e → HasNoFeed (print_extension e)
no_feed_extension None is = none_feed
no_feed_extension (Some t) is = All-cons (λ b. nat_eq b line_feed ≡ false) semicolon t refl (all_no_feed is_extension_byte extension_no_feed t is)

no_feed_return : HasNoFeed (carriage_return ∷ [])
no_feed_return = All-cons (λ b. nat_eq b line_feed ≡ false) carriage_return [] refl none_feed

-- a line of the grammar is its bytes without LF, and then an LF
line_split : (line : ChunkLine) → IsChunkLine line → (mid : List ℕ) × HasNoFeed mid × (print_chunk_line line ≡ mid ++ line_feed ∷ [])
unfolding print_chunk_line
line_split line valid =
    let P = λ (b : ℕ). nat_eq b line_feed ≡ false in
    let tail = print_extension line.extension ++ carriage_return ∷ [] in
    let no_tail : HasNoFeed tail = All-append P (print_extension line.extension) (carriage_return ∷ []) (no_feed_extension line.extension valid.extension) no_feed_return in
    let no_pad : HasNoFeed (line.pad ++ tail) = All-append P line.pad tail (all_no_feed is_ows ows_no_feed line.pad valid.pad) no_tail in (
      line.digits ++ (line.pad ++ tail),
      All-append P line.digits (line.pad ++ tail) (all_no_feed is_ascii_hexdigit digit_no_feed line.digits valid.digits.2) no_pad,
      simp append_assoc,
    )

-- ---- a chunk

after_size : (s : BodyState) (n : ℕ) → 0 < n → s.sizes + n ≤ s.limit → after_line s (Some n) ≡ record s { stage = at.Chunk n; line = []; sizes = s.sizes + n }
after_size s n some few =
    let small : nat_lt s.limit (s.sizes + n) ≡ false = le-ltb s.limit (s.sizes + n) few in
    let more : nat_eq n 0 ≡ false = ne_eqb n 0 (λ e. omega arith) in
    rw (small, more)

after_last : (s : BodyState) → s.sizes ≤ s.limit → after_line s (Some 0) ≡ record s { stage = at.Trailer 0 Nothing; line = [] }
after_last s few =
    let small : nat_lt s.limit (s.sizes + 0) ≡ false = le-ltb s.limit (s.sizes + 0) (omega arith) in
    rw small

-- the CR LF behind a chunk
chunk_end : (s : BodyState) (n : ℕ) (rest : List ℕ) → n ≡ 0 → told_from (in_chunk s n) (carriage_return ∷ line_feed ∷ rest) ≡ told_from (record s { stage = at.ChunkLine }) rest
unfolding told_from
chunk_end s n rest none = rw none

told_line : (s : BodyState) (line : ChunkLine) (rest : List ℕ) → IsLine line → told_from (at_line s []) (print_chunk_line line ++ rest) ≡ told_from (after_line s (Some (chunk_size line))) rest
told_line s line rest is =
    let w = line_split line is.valid in
    let bytes : print_chunk_line line ++ rest ≡ w.0 ++ line_feed ∷ rest = ap (λ l. l ++ rest) w.2 ∙ append_assoc w.0 (line_feed ∷ []) rest in
    let size : chunk_line_size (w.0 ++ line_feed ∷ []) ≡ Some (chunk_size line) = size_of_line line (w.0 ++ line_feed ∷ []) (is.valid, sym w.2 ∙ sym (append-nil (print_chunk_line line))) in
    ap (told_from (at_line s [])) bytes
    ∙ line_told s [] w.0 rest w.1 (subst (λ (l : List ℕ). length l ≤ line_limit) w.2 is.small)
    ∙ ap (λ o. told_from (after_line s o) rest) size

abbrev with_size : BodyState → ℕ → BodyState
with_size s n = record s { sizes = s.sizes + n }

chunk_told : (s : BodyState) (c : Chunk) (rest : List ℕ) → IsChunk c → s.sizes + length c.bytes ≤ s.limit
    → told_from (at_line s []) (print_chunk c ++ rest) ≡ with_bytes c.bytes (told_from (at_line (with_size s (length c.bytes)) []) rest)
chunk_told s c rest is few =
    let n = length c.bytes in
    let in_it = record s { stage = at.Chunk n; line = []; sizes = s.sizes + n } in
    let bytes : print_chunk c ++ rest ≡ print_chunk_line c.line ++ (c.bytes ++ carriage_return ∷ line_feed ∷ rest) = simp append_assoc in
    ap (told_from (at_line s [])) bytes
    ∙ told_line s c.line (c.bytes ++ carriage_return ∷ line_feed ∷ rest) is.line
    ∙ ap (λ k. told_from (after_line s (Some k)) (c.bytes ++ carriage_return ∷ line_feed ∷ rest)) is.size
    ∙ ap (λ t. told_from t (c.bytes ++ carriage_return ∷ line_feed ∷ rest)) (after_size s n is.some few)
    ∙ told_data in_it c.bytes (carriage_return ∷ line_feed ∷ rest) is.some (omega arith)
    ∙ ap (with_bytes c.bytes) (chunk_end in_it (n - n) rest (omega arith))

chunks_told : (s : BodyState) (chunks : List Chunk) (rest : List ℕ) → All IsChunk chunks → s.sizes + length (bytes_of chunks) ≤ s.limit
    → told_from (at_line s []) (flat_map print_chunk chunks ++ rest) ≡ with_bytes (bytes_of chunks) (told_from (at_line (with_size s (length (bytes_of chunks))) []) rest)
chunks_told s [] rest each few =
    let same : s.sizes ≡ s.sizes + 0 = omega arith in
    ap (λ n. told_from (record s { stage = at.ChunkLine; line = []; sizes = n }) rest) same
chunks_told s (c ∷ chunks) rest each few =
    let n = length c.bytes in
    let more = bytes_of chunks in
    let all = length-append c.bytes more in
    let first = All-head IsChunk c chunks each in
    let sizes : s.sizes + n + length more ≡ s.sizes + length (c.bytes ++ more) = omega (arith, all) in
    ap (told_from (at_line s [])) (append_assoc (print_chunk c) (flat_map print_chunk chunks) rest)
    ∙ chunk_told s c (flat_map print_chunk chunks ++ rest) first (omega (arith, all))
    ∙ ap (with_bytes c.bytes) (chunks_told (with_size s n) chunks rest (All-tail IsChunk c chunks each) (omega (arith, all)))
    ∙ with_both c.bytes more (told_from (at_line (with_size (with_size s n) (length more)) []) rest)
    ∙ ap (λ k. with_bytes (c.bytes ++ more) (told_from (record s { stage = at.ChunkLine; line = []; sizes = k }) rest)) sizes

-- ---- a trailer

abbrev in_trailer : BodyState → ℕ → TrailerLine → BodyState
in_trailer s n line = record s { stage = at.Trailer n line }

text_told : (s : BodyState) (n : ℕ) (mid rest : List ℕ) → HasNoFeed mid → n + length mid < trailer_limit
    → told_from (in_trailer s n Text) (mid ++ line_feed ∷ rest) ≡ told_from (in_trailer s (n + length mid + 1) Nothing) rest
unfolding told_from
text_told s n [] rest none few =
    let room : nat_le trailer_limit n ≡ false = lt-leb trailer_limit n (omega arith) in
    let next : trailer_byte (in_trailer s n Text) n Text line_feed ≡ in_trailer s (n + 1) Nothing = rw room in
    let same : n + 1 ≡ n + 0 + 1 = omega arith in
    ap (λ t. told_from t rest) next ∙ ap (λ k. told_from (in_trailer s k Nothing) rest) same
text_told s n (x ∷ mid) rest none few =
    let room : nat_le trailer_limit n ≡ false = lt-leb trailer_limit n (omega arith) in
    let other : nat_eq x line_feed ≡ false = All-head (λ b. nat_eq b line_feed ≡ false) x mid none in
    let next : trailer_byte (in_trailer s n Text) n Text x ≡ in_trailer s (n + 1) Text = rw (room, other) in
    let same : n + 1 + length mid + 1 ≡ n + length (x ∷ mid) + 1 = omega arith in
    ap (λ t. told_from t (mid ++ line_feed ∷ rest)) next
    ∙ text_told s (n + 1) mid rest (All-tail (λ b. nat_eq b line_feed ≡ false) x mid none) (omega arith)
    ∙ ap (λ k. told_from (in_trailer s k Nothing) rest) same

-- the second byte of a line, behind a CR or not
second_told : (s : BodyState) (n : ℕ) (t : Bool) (y : ℕ) (rest : List ℕ) → nat_eq y line_feed ≡ false → n < trailer_limit
    → told_from (in_trailer s n (if t then Return else Text)) (y ∷ rest) ≡ told_from (in_trailer s (n + 1) Text) rest
unfolding told_from
second_told s n true y rest other few =
    let room : nat_le trailer_limit n ≡ false = lt-leb trailer_limit n few in
    let next : trailer_byte (in_trailer s n Return) n Return y ≡ in_trailer s (n + 1) Text = rw (room, other) in
    ap (λ t. told_from t rest) next
second_told s n false y rest other few =
    let room : nat_le trailer_limit n ≡ false = lt-leb trailer_limit n few in
    let next : trailer_byte (in_trailer s n Text) n Text y ≡ in_trailer s (n + 1) Text = rw (room, other) in
    ap (λ t. told_from t rest) next

-- the first byte of a line
first_told : (s : BodyState) (n x : ℕ) (rest : List ℕ) → nat_eq x line_feed ≡ false → n < trailer_limit
    → told_from (in_trailer s n Nothing) (x ∷ rest) ≡ told_from (in_trailer s (n + 1) (if nat_eq x carriage_return then Return else Text)) rest
unfolding told_from
first_told s n x rest other few =
    let room : nat_le trailer_limit n ≡ false = lt-leb trailer_limit n few in
    let next : trailer_byte (in_trailer s n Nothing) n Nothing x ≡ in_trailer s (n + 1) (trailer_line Nothing x) = rw (room, other) in
    ap (λ t. told_from t rest) next

trailer_line_told : (s : BodyState) (n : ℕ) (line rest : List ℕ) → IsTrailerLine line → n + length line < trailer_limit
    → told_from (in_trailer s n Nothing) (line ++ line_feed ∷ rest) ≡ told_from (in_trailer s (n + length line + 1) Nothing) rest
trailer_line_told s n [] rest is few = absurd (is.some refl)
trailer_line_told s n (x ∷ []) rest is few =
    let other : nat_eq x line_feed ≡ false = All-head (λ b. nat_eq b line_feed ≡ false) x [] is.no_feed in
    let text : nat_eq x carriage_return ≡ false = ne_eqb x carriage_return (λ e. is.no_return (ap (λ b. b ∷ []) e)) in
    let same : n + 1 + 0 + 1 ≡ n + length (x ∷ []) + 1 = omega arith in
    first_told s n x (line_feed ∷ rest) other (omega arith)
    ∙ ap (λ t. told_from (in_trailer s (n + 1) (if t then Return else Text)) (line_feed ∷ rest)) text
    ∙ text_told s (n + 1) [] rest none_feed (omega arith)
    ∙ ap (λ k. told_from (in_trailer s k Nothing) rest) same
trailer_line_told s n (x ∷ y ∷ mid) rest is few =
    let P = λ (b : ℕ). nat_eq b line_feed ≡ false in
    let other : nat_eq x line_feed ≡ false = All-head P x (y ∷ mid) is.no_feed in
    let behind = All-tail P x (y ∷ mid) is.no_feed in
    let next : nat_eq y line_feed ≡ false = All-head P y mid behind in
    let same : n + 1 + 1 + length mid + 1 ≡ n + length (x ∷ y ∷ mid) + 1 = omega arith in
    first_told s n x (y ∷ (mid ++ line_feed ∷ rest)) other (omega arith)
    ∙ second_told s (n + 1) (nat_eq x carriage_return) y (mid ++ line_feed ∷ rest) next (omega arith)
    ∙ text_told s (n + 1 + 1) mid rest (All-tail P y mid behind) (omega arith)
    ∙ ap (λ k. told_from (in_trailer s k Nothing) rest) same

whole_at : (s : BodyState) (rest : List ℕ) → told_from (over s Whole) rest ≡ record { body = []; ending = Whole; rest = rest }
whole_at s rest = told_over (over s Whole) Whole rest refl

end_told : (s : BodyState) (n : ℕ) (end : LineEnd) (rest : List ℕ) → n + length (print_end end) ≤ trailer_limit → told_from (in_trailer s n Nothing) (print_end end ++ rest) ≡ record { body = []; ending = Whole; rest = rest }
unfolding told_from
end_told s n lf rest few =
    let room : nat_le trailer_limit n ≡ false = lt-leb trailer_limit n (omega arith) in
    let next : trailer_byte (in_trailer s n Nothing) n Nothing line_feed ≡ over (in_trailer s n Nothing) Whole = rw room in
    ap (λ t. told_from t rest) next ∙ whole_at (in_trailer s n Nothing) rest
end_told s n crlf rest few =
    let room : nat_le trailer_limit n ≡ false = lt-leb trailer_limit n (omega arith) in
    let room_2 : nat_le trailer_limit (n + 1) ≡ false = lt-leb trailer_limit (n + 1) (omega arith) in
    let first : trailer_byte (in_trailer s n Nothing) n Nothing carriage_return ≡ in_trailer s (n + 1) Return = rw room in
    let next : trailer_byte (in_trailer s (n + 1) Return) (n + 1) Return line_feed ≡ over (in_trailer s (n + 1) Return) Whole = rw room_2 in
    ap (λ t. told_from t (line_feed ∷ rest)) first ∙ ap (λ t. told_from t rest) next ∙ whole_at (in_trailer s (n + 1) Return) rest

trailer_told : (s : BodyState) (n : ℕ) (lines : List (List ℕ)) (end : LineEnd) (rest : List ℕ) → All IsTrailerLine lines → n + length (print_trailer lines end) ≤ trailer_limit
    → told_from (in_trailer s n Nothing) (print_trailer lines end ++ rest) ≡ record { body = []; ending = Whole; rest = rest }
trailer_told s n [] end rest each few = end_told s n end rest few
trailer_told s n (line ∷ lines) end rest each few =
    let behind = print_trailer lines end in
    let split : print_trailer (line ∷ lines) end ≡ line ++ (line_feed ∷ behind) = simp append_assoc in
    let size : length (print_trailer (line ∷ lines) end) ≡ length line + (1 + length behind) = ap length split ∙ length-append line (line_feed ∷ behind) ∙ omega arith in
    ap (λ l. told_from (in_trailer s n Nothing) (l ++ rest)) split
    ∙ ap (told_from (in_trailer s n Nothing)) (append_assoc line (line_feed ∷ behind) rest)
    ∙ trailer_line_told s n line (behind ++ rest) (All-head IsTrailerLine line lines each) (omega (arith, size))
    ∙ trailer_told s (n + length line + 1) lines end rest (All-tail IsTrailerLine line lines each) (omega (arith, size))

-- ---- the whole body

pub chunks_read : ChunksAreRead
chunks_read limit bytes body rest is =
    let s = first_state Chunked limit in
    let more = bytes_of is.chunks in
    let behind = print_trailer is.lines is.end ++ rest in
    let t = with_size s (length more) in
    ap (told_from s) is.split
    ∙ chunks_told s is.chunks (print_chunk_line is.last ++ behind) is.each (omega (arith, is.within, ap length is.body_is))
    ∙ ap (with_bytes more)
    (told_line t is.last behind is.last_line
    ∙ ap (λ k. told_from (after_line t (Some k)) behind) is.last_size
    ∙ ap (λ u. told_from u behind) (after_last t (omega (arith, is.within, ap length is.body_is)))
    ∙ trailer_told (record t { line = [] }) 0 is.lines is.end rest is.each_line (omega (arith, is.small)))
    ∙ ap (λ l. record { body = l; ending = Whole; rest = rest }) (append-nil more ∙ sym is.body_is)
