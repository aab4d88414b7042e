-- A body that is read whole as a chunked one is one of the grammar.
use Rattle.std.proofs.Common.{◌≡◌, ℕ, ◌+◌, ◌-◌, ◌<◌, ◌≤◌, Bool, true, false, List, [], ◌∷◌, ◌++◌, length, Option, Some, None, refl, ap, sym, subst, ◌∙◌, append_assoc, arith}
use Rattle.std.specs.Prelude.{nat_eq, nat_le, nat_lt}
use Rattle.std.proofs.lemmas.Bool.{eqb-true}
use Rattle.std.proofs.lemmas.Bool.Decides.{nat_tests}
use Rattle.std.proofs.lemmas.List.Elements.{All-nil, All-cons}
use Rattle.httparse.specs.Ascii.{line_feed, carriage_return}
use Rattle.httparse.specs.Grammar.{crlf, lf}
use Rattle.mt_http.specs.Body.{BodyState, Told, after_line, in_chunk, line_byte, line_limit, next_state, over, told_from, trailer_limit, with_byte}
use Rattle.mt_http.specs.Chunk.{chunk_line_size}
use Rattle.mt_http.specs.Chunked.{HasChunks, HasNoFeed, IsTrailerLine}
use Rattle.mt_http.specs.declared.message.Ending.TheVariants.{Whole, Bad, TooLarge}
use Rattle.mt_http.specs.declared.stage.Stage.{Stage}
use Rattle.mt_http.specs.declared.stage.Stage.TheVariants as at
use Rattle.mt_http.specs.declared.stage.TrailerLine.{TrailerLine}
use Rattle.mt_http.specs.declared.stage.TrailerLine.TheVariants.{Nothing, Return, Text}
use Rattle.mt_http.proofs.Bodies.{told_over}
use Rattle.mt_http.proofs.ChunkParts.{whole, st, From, Within, Fed, Behind, InTrailer, What, bad, large, cut, ends, no_feed, last_from, chunk_from, line_behind, byte_behind, empty_behind, one_text, more_text, some_text}

not_above : (limit n : ℕ) → nat_lt limit n ≡ false → n ≤ limit
not_above limit n is = grind (arith, nat_tests)

not_full : (limit n : ℕ) → nat_le limit n ≡ false → n < limit
not_full limit n is = grind (arith, nat_tests)

not_zero : (n : ℕ) → nat_eq n 0 ≡ false → 0 < n
not_zero n is = grind (arith, nat_tests)

remade : (t : Told) (rest : List ℕ) → t.ending ≡ Whole → t.rest ≡ rest → t ≡ whole t.body rest
remade t rest ending same = λ i. record { body = t.body; ending = ending i; rest = same i }

-- a byte more of a chunk
data_within : (n left sizes limit b : ℕ) (bytes inner body rest : List ℕ) → b ∷ inner ≡ body → n ≡ left + 1 → Within left sizes limit bytes inner rest → Within n sizes limit (b ∷ bytes) body rest
data_within n left sizes limit b bytes inner body rest is size w = record {
  own = b ∷ w.own;
  more = w.more;
  inner = w.inner;
  size = omega (arith, w.size, size);
  split = ap (λ (t : List ℕ). b ∷ t) w.split;
  body_is = sym is ∙ ap (λ (t : List ℕ). b ∷ t) w.body_is;
  tail = w.tail;
}

over_told : (s : BodyState) (bytes body rest : List ℕ) → told_from (over s Whole) bytes ≡ whole body rest → (body ≡ []) × (bytes ≡ rest)
over_told s bytes body rest told =
    let here : record { body = []; ending = Whole; rest = bytes } ≡ whole body rest = sym (told_over (over s Whole) Whole bytes refl) ∙ told in
    (sym (ap (λ (t : Told). t.body) here), ap (λ (t : Told). t.rest) here)

abbrev More : ℕ → List ℕ → ℕ → ℕ → List ℕ → List ℕ → List ℕ → Type 0
More n line sizes limit bytes body rest = (kind : TrailerLine) → told_from (st (at.Trailer n kind) line sizes limit) bytes ≡ whole body rest → InTrailer kind n bytes body rest

-- a byte of a trailer
in_nothing : (n : ℕ) (line : List ℕ) (sizes limit b : ℕ) (bytes body rest : List ℕ) (full feed return : Bool) → nat_le trailer_limit n ≡ full → nat_eq b line_feed ≡ feed → nat_eq b carriage_return ≡ return
    → More (n + 1) line sizes limit bytes body rest → told_from (st (at.Trailer n Nothing) line sizes limit) (b ∷ bytes) ≡ whole body rest → Behind n [] (b ∷ bytes) body rest
unfolding told_from
in_nothing n line sizes limit b bytes body rest true feed return is_full is_feed is_return more told =
    let s = st (at.Trailer n Nothing) line sizes limit in
    let next : next_state s b ≡ over s Bad = rw is_full in
    absurd (bad (ends (over s Bad) Bad bytes body rest refl (sym (ap (λ t. told_from t bytes) next) ∙ told)))
in_nothing n line sizes limit b bytes body rest false true return is_full is_feed is_return more told =
    let s = st (at.Trailer n Nothing) line sizes limit in
    let next : next_state s b ≡ over s Whole = rw (is_full, is_feed) in
    let here = over_told s bytes body rest (sym (ap (λ t. told_from t bytes) next) ∙ told) in
    subst (λ x. Behind n [] (x ∷ bytes) body rest) (sym (eqb-true b line_feed is_feed)) (empty_behind n lf [] bytes body rest (not_full trailer_limit n is_full) refl here.0 here.1)
in_nothing n line sizes limit b bytes body rest false false true is_full is_feed is_return more told =
    let s = st (at.Trailer n Nothing) line sizes limit in
    let next : next_state s b ≡ st (at.Trailer (n + 1) Return) line sizes limit = rw (is_full, is_feed, is_return) in
    let here = more Return (sym (ap (λ t. told_from t bytes) next) ∙ told) in
    byte_behind n [] b bytes body rest (subst (λ x. Behind (n + 1) (x ∷ []) bytes body rest) (sym (eqb-true b carriage_return is_return)) here)
in_nothing n line sizes limit b bytes body rest false false false is_full is_feed is_return more told =
    let s = st (at.Trailer n Nothing) line sizes limit in
    let next : next_state s b ≡ st (at.Trailer (n + 1) Text) line sizes limit = rw (is_full, is_feed, is_return) in
    byte_behind n [] b bytes body rest (more Text (sym (ap (λ t. told_from t bytes) next) ∙ told) (b ∷ []) (one_text b is_feed is_return))

in_return : (n : ℕ) (line : List ℕ) (sizes limit b : ℕ) (bytes body rest : List ℕ) (full feed : Bool) → nat_le trailer_limit n ≡ full → nat_eq b line_feed ≡ feed
    → More (n + 1) line sizes limit bytes body rest → told_from (st (at.Trailer n Return) line sizes limit) (b ∷ bytes) ≡ whole body rest → Behind n (carriage_return ∷ []) (b ∷ bytes) body rest
unfolding told_from
in_return n line sizes limit b bytes body rest true feed is_full is_feed more told =
    let s = st (at.Trailer n Return) line sizes limit in
    let next : next_state s b ≡ over s Bad = rw is_full in
    absurd (bad (ends (over s Bad) Bad bytes body rest refl (sym (ap (λ t. told_from t bytes) next) ∙ told)))
in_return n line sizes limit b bytes body rest false true is_full is_feed more told =
    let s = st (at.Trailer n Return) line sizes limit in
    let next : next_state s b ≡ over s Whole = rw (is_full, is_feed) in
    let here = over_told s bytes body rest (sym (ap (λ t. told_from t bytes) next) ∙ told) in
    subst (λ x. Behind n (carriage_return ∷ []) (x ∷ bytes) body rest) (sym (eqb-true b line_feed is_feed)) (empty_behind n crlf (carriage_return ∷ []) bytes body rest (not_full trailer_limit n is_full) refl here.0 here.1)
in_return n line sizes limit b bytes body rest false false is_full is_feed more told =
    let s = st (at.Trailer n Return) line sizes limit in
    let next : next_state s b ≡ st (at.Trailer (n + 1) Text) line sizes limit = rw (is_full, is_feed) in
    let one : HasNoFeed (carriage_return ∷ []) = All-cons (λ x. nat_eq x line_feed ≡ false) carriage_return [] refl (All-nil (λ x. nat_eq x line_feed ≡ false)) in
    byte_behind n (carriage_return ∷ []) b bytes body rest (more Text (sym (ap (λ t. told_from t bytes) next) ∙ told) (carriage_return ∷ b ∷ []) (more_text (carriage_return ∷ []) b one (omega arith) is_feed))

in_text : (n : ℕ) (line : List ℕ) (sizes limit b : ℕ) (bytes body rest : List ℕ) (full feed : Bool) → nat_le trailer_limit n ≡ full → nat_eq b line_feed ≡ feed
    → More (n + 1) line sizes limit bytes body rest → told_from (st (at.Trailer n Text) line sizes limit) (b ∷ bytes) ≡ whole body rest → (own : List ℕ) → IsTrailerLine own → Behind n own (b ∷ bytes) body rest
unfolding told_from
in_text n line sizes limit b bytes body rest true feed is_full is_feed more told own is =
    let s = st (at.Trailer n Text) line sizes limit in
    let next : next_state s b ≡ over s Bad = rw is_full in
    absurd (bad (ends (over s Bad) Bad bytes body rest refl (sym (ap (λ t. told_from t bytes) next) ∙ told)))
in_text n line sizes limit b bytes body rest false true is_full is_feed more told own is =
    let s = st (at.Trailer n Text) line sizes limit in
    let next : next_state s b ≡ st (at.Trailer (n + 1) Nothing) line sizes limit = rw (is_full, is_feed) in
    subst (λ x. Behind n own (x ∷ bytes) body rest) (sym (eqb-true b line_feed is_feed)) (line_behind n own bytes body rest is (more Nothing (sym (ap (λ t. told_from t bytes) next) ∙ told)))
in_text n line sizes limit b bytes body rest false false is_full is_feed more told own is =
    let s = st (at.Trailer n Text) line sizes limit in
    let next : next_state s b ≡ st (at.Trailer (n + 1) Text) line sizes limit = rw (is_full, is_feed) in
    byte_behind n own b bytes body rest (more Text (sym (ap (λ t. told_from t bytes) next) ∙ told) (own ++ b ∷ []) (more_text own b is.no_feed (some_text own is) is_feed))

in_trailer : (n : ℕ) (kind : TrailerLine) (line : List ℕ) (sizes limit b : ℕ) (bytes body rest : List ℕ) → More (n + 1) line sizes limit bytes body rest
    → told_from (st (at.Trailer n kind) line sizes limit) (b ∷ bytes) ≡ whole body rest → InTrailer kind n (b ∷ bytes) body rest
in_trailer n Nothing line sizes limit b bytes body rest more told = in_nothing n line sizes limit b bytes body rest (nat_le trailer_limit n) (nat_eq b line_feed) (nat_eq b carriage_return) refl refl refl more told
in_trailer n Return line sizes limit b bytes body rest more told = in_return n line sizes limit b bytes body rest (nat_le trailer_limit n) (nat_eq b line_feed) refl refl more told
in_trailer n Text line sizes limit b bytes body rest more told = in_text n line sizes limit b bytes body rest (nat_le trailer_limit n) (nat_eq b line_feed) refl refl more told

-- ---- one byte

-- a chunk line that is whole
line_ends : (line : List ℕ) (sizes limit : ℕ) (bytes body rest : List ℕ) → HasNoFeed line → length line < line_limit → (size : Option ℕ) → chunk_line_size (line ++ line_feed ∷ []) ≡ size
    → told_from (after_line (st at.ChunkLine line sizes limit) size) bytes ≡ whole body rest
    → ((stage : Stage) (sum : ℕ) → told_from (st stage [] sum limit) bytes ≡ whole body rest → What stage [] sum limit bytes body rest)
    → From sizes limit (line ++ line_feed ∷ bytes) body rest
line_ends line sizes limit bytes body rest none few None is told more = absurd (bad (ends (over (st at.ChunkLine line sizes limit) Bad) Bad bytes body rest refl told))
line_ends line sizes limit bytes body rest none few (Some n) is told more = by (nat_lt limit (sizes + n)) (nat_eq n 0) refl refl told
  where
    by : (above last : Bool) → nat_lt limit (sizes + n) ≡ above → nat_eq n 0 ≡ last → told_from (after_line (st at.ChunkLine line sizes limit) (Some n)) bytes ≡ whole body rest → From sizes limit (line ++ line_feed ∷ bytes) body rest
    by true last above is_last here =
        let s = st at.ChunkLine line sizes limit in
        let next : after_line s (Some n) ≡ over s TooLarge = rw above in
        absurd (large (ends (over s TooLarge) TooLarge bytes body rest refl (sym (ap (λ t. told_from t bytes) next) ∙ here)))
    by false true above is_last here =
        let zero : n ≡ 0 = eqb-true n 0 is_last in
        let next : after_line (st at.ChunkLine line sizes limit) (Some n) ≡ st (at.Trailer 0 Nothing) [] sizes limit = rw (above, is_last) in
        let room : sizes + n ≤ limit = not_above limit (sizes + n) above in
        last_from line sizes limit bytes body rest few (omega (arith, room, zero)) (is ∙ ap Some zero) (more (at.Trailer 0 Nothing) sizes (sym (ap (λ t. told_from t bytes) next) ∙ here))
    by false false above is_last here =
        let some : 0 < n = not_zero n is_last in
        let next : after_line (st at.ChunkLine line sizes limit) (Some n) ≡ st (at.Chunk n) [] (sizes + n) limit = rw (above, is_last) in
        chunk_from line n sizes limit bytes body rest few some is (more (at.Chunk n) (sizes + n) (sym (ap (λ t. told_from t bytes) next) ∙ here) some refl)

-- ---- what a whole body is

parse : (stage : Stage) (line : List ℕ) (sizes limit : ℕ) (bytes body rest : List ℕ) → told_from (st stage line sizes limit) bytes ≡ whole body rest → What stage line sizes limit bytes body rest
unfolding told_from
parse (at.Counted n) line sizes limit bytes body rest told = tt
parse (at.Over e) line sizes limit bytes body rest told = tt
parse at.ChunkLine line sizes limit [] body rest told = absurd (cut (ap (λ (t : Told). t.ending) told))
parse (at.Chunk n) line sizes limit [] body rest told = absurd (cut (ap (λ (t : Told). t.ending) told))
parse at.ChunkReturn line sizes limit [] body rest told = absurd (cut (ap (λ (t : Told). t.ending) told))
parse at.ChunkFeed line sizes limit [] body rest told = absurd (cut (ap (λ (t : Told). t.ending) told))
parse (at.Trailer n line') line sizes limit [] body rest told = absurd (cut (ap (λ (t : Told). t.ending) told))
parse at.ChunkLine line sizes limit (b ∷ bytes) body rest told =
    by (nat_le line_limit (length line)) (nat_eq b line_feed) refl refl (λ stage line sum. parse stage line sum limit bytes body rest)
  where
    by : (full feed : Bool) → nat_le line_limit (length line) ≡ full → nat_eq b line_feed ≡ feed
        → ((stage : Stage) (line : List ℕ) (sum : ℕ) → told_from (st stage line sum limit) bytes ≡ whole body rest → What stage line sum limit bytes body rest)
        → HasNoFeed line → From sizes limit (line ++ b ∷ bytes) body rest
    by true feed full is more none =
        let s = st at.ChunkLine line sizes limit in
        let next : line_byte s b ≡ over s Bad = rw full in
        absurd (bad (ends (over s Bad) Bad bytes body rest refl (sym (ap (λ t. told_from t bytes) next) ∙ told)))
    by false false full is more none =
        let s = st at.ChunkLine line sizes limit in
        let next : line_byte s b ≡ st at.ChunkLine (line ++ b ∷ []) sizes limit = rw (full, is) in
        let tail = more at.ChunkLine (line ++ b ∷ []) sizes (sym (ap (λ t. told_from t bytes) next) ∙ told) (no_feed line b none is) in
        subst (λ (t : List ℕ). From sizes limit t body rest) (append_assoc line (b ∷ []) bytes) tail
    by false true full is more none =
        let s = st at.ChunkLine line sizes limit in
        let same : b ≡ line_feed = eqb-true b line_feed is in
        let next : line_byte s b ≡ after_line s (chunk_line_size (line ++ line_feed ∷ [])) = rw (full, is) (ap (λ x. after_line s (chunk_line_size (line ++ x ∷ []))) same) in
        let few : length line < line_limit = not_full line_limit (length line) full in
        let here = line_ends line sizes limit bytes body rest none few (chunk_line_size (line ++ line_feed ∷ [])) refl (sym (ap (λ t. told_from t bytes) next) ∙ told) (λ stage sum. more stage [] sum) in
        subst (λ x. From sizes limit (line ++ x ∷ bytes) body rest) (sym same) here
parse (at.Chunk n) line sizes limit (b ∷ bytes) body rest told =
    by (nat_eq (n - 1) 0) refl (λ stage. parse stage line sizes limit bytes)
  where
    by : (last : Bool) → nat_eq (n - 1) 0 ≡ last → ((stage : Stage) (inner rest : List ℕ) → told_from (st stage line sizes limit) bytes ≡ whole inner rest → What stage line sizes limit bytes inner rest) → 0 < n → line ≡ [] → Within n sizes limit (b ∷ bytes) body rest
    by true is more some empty =
        let zero : n - 1 ≡ 0 = eqb-true (n - 1) 0 is in
        let next : in_chunk (st (at.Chunk n) line sizes limit) (n - 1) ≡ st at.ChunkReturn line sizes limit = rw is in
        let t = told_from (st at.ChunkReturn line sizes limit) bytes in
        let here : with_byte b t ≡ whole body rest = sym (ap (λ x. with_byte b (told_from x bytes)) next) ∙ told in
        data_within n 0 sizes limit b bytes t.body body rest (ap (λ (x : Told). x.body) here) (omega (arith, zero, some)) (more at.ChunkReturn t.body rest (remade t rest (ap (λ (x : Told). x.ending) here) (ap (λ (x : Told). x.rest) here)) empty)
    by false is more some empty =
        let left : 0 < n - 1 = not_zero (n - 1) is in
        let next : in_chunk (st (at.Chunk n) line sizes limit) (n - 1) ≡ st (at.Chunk (n - 1)) line sizes limit = rw is in
        let t = told_from (st (at.Chunk (n - 1)) line sizes limit) bytes in
        let here : with_byte b t ≡ whole body rest = sym (ap (λ x. with_byte b (told_from x bytes)) next) ∙ told in
        data_within n (n - 1) sizes limit b bytes t.body body rest (ap (λ (x : Told). x.body) here) (omega (arith, left)) (more (at.Chunk (n - 1)) t.body rest (remade t rest (ap (λ (x : Told). x.ending) here) (ap (λ (x : Told). x.rest) here)) left empty)
parse at.ChunkReturn line sizes limit (b ∷ bytes) body rest told =
    by (nat_eq b carriage_return) refl (parse at.ChunkFeed line sizes limit bytes body rest)
  where
    by : (t : Bool) → nat_eq b carriage_return ≡ t → (told_from (st at.ChunkFeed line sizes limit) bytes ≡ whole body rest → line ≡ [] → Fed sizes limit bytes body rest) → line ≡ [] → Within 0 sizes limit (b ∷ bytes) body rest
    by false is more empty =
        let s = st at.ChunkReturn line sizes limit in
        let next : next_state s b ≡ over s Bad = rw is in
        absurd (bad (ends (over s Bad) Bad bytes body rest refl (sym (ap (λ t. told_from t bytes) next) ∙ told)))
    by true is more empty =
        let next : next_state (st at.ChunkReturn line sizes limit) b ≡ st at.ChunkFeed line sizes limit = rw is in
        let fed = more (sym (ap (λ t. told_from t bytes) next) ∙ told) empty in
        record { own = []; more = fed.more; inner = body; size = refl; split = (λ i. eqb-true b carriage_return is i ∷ fed.split i); body_is = refl; tail = fed.tail }
parse at.ChunkFeed line sizes limit (b ∷ bytes) body rest told =
    by (nat_eq b line_feed) refl (parse at.ChunkLine line sizes limit bytes body rest)
  where
    by : (t : Bool) → nat_eq b line_feed ≡ t → (told_from (st at.ChunkLine line sizes limit) bytes ≡ whole body rest → HasNoFeed line → From sizes limit (line ++ bytes) body rest) → line ≡ [] → Fed sizes limit (b ∷ bytes) body rest
    by false is more empty =
        let s = st at.ChunkFeed line sizes limit in
        let next : next_state s b ≡ over s Bad = rw is in
        absurd (bad (ends (over s Bad) Bad bytes body rest refl (sym (ap (λ t. told_from t bytes) next) ∙ told)))
    by true is more empty =
        let next : next_state (st at.ChunkFeed line sizes limit) b ≡ st at.ChunkLine line sizes limit = rw is in
        let from = more (sym (ap (λ t. told_from t bytes) next) ∙ told) (subst HasNoFeed (sym empty) (All-nil (λ x. nat_eq x line_feed ≡ false))) in
        record { more = bytes; split = ap (λ x. x ∷ bytes) (eqb-true b line_feed is); tail = subst (λ (l : List ℕ). From sizes limit (l ++ bytes) body rest) empty from }
parse (at.Trailer n line') line sizes limit (b ∷ bytes) body rest told =
    in_trailer n line' line sizes limit b bytes body rest (λ kind. parse (at.Trailer (n + 1) kind) line sizes limit bytes body rest) told

pub read_chunks : (limit : ℕ) (bytes body rest : List ℕ) → told_from (st at.ChunkLine [] 0 limit) bytes ≡ whole body rest → HasChunks limit bytes body rest
read_chunks limit bytes body rest told =
    let from = parse at.ChunkLine [] 0 limit bytes body rest told (All-nil (λ x. nat_eq x line_feed ≡ false)) in
    record {
      chunks = from.chunks;
      last = from.last;
      lines = from.lines;
      end = from.end;
      each = from.each;
      last_line = from.last_line;
      last_size = from.last_size;
      each_line = from.each_line;
      small = from.small;
      body_is = from.body_is;
      within = omega (arith, from.within);
      split = from.split;
    }
