-- Placing the lines of a reply, and writing one text after another
use Rattle.std.proofs.Common.{◌≡◌, ℕ, ◌+◌, ◌<◌, ◌≤◌, true, false, List, [], ◌∷◌, ◌++◌, length, take, drop, insert, map, Option, get_or, ap, sym, ◌∙◌, append_assoc, length-append, arith}
use Rattle.std.proofs.lemmas.List.{drop_more, take_more, drop_all, length-map, get_or-map, map-append, take-map, drop-map}
use Rattle.mt_edge.specs.Stream.{GotMore, WritesFront}
use Rattle.mt_edge.proofs.Streams.{got_more}
use Rattle.mt_types.specs.declared.object.Field.{Field}
use Rattle.mt_http.specs.declared.reply.Line.{Line}
use Rattle.mt_http.specs.ReplyText.{is_before, placed}
use Rattle.mt_http.specs.ReplyWriting.{field_of_line, fields_of_lines}

-- the fields before this place are not above f
abbrev pub IsPassed : Field → List Field → ℕ → Type 0
IsPassed f fields at = placed f fields ≡ take at fields ++ placed f (drop at fields)

-- f is not below the next one
pub pass : (f : Field) (fields : List Field) (at : ℕ) (g : Field) → at < length fields → get_or fields at g ≡ g → is_before f.name g.name ≡ false → IsPassed f fields at → IsPassed f fields (at + 1)
pass f fields at g less is above passed =
    let next : drop at fields ≡ g ∷ drop (at + 1) fields = drop_more fields at g less ∙ ap (λ x. x ∷ drop (at + 1) fields) is in
    let front : take (at + 1) fields ≡ take at fields ++ g ∷ [] = take_more fields at g less ∙ ap (λ x. take at fields ++ x ∷ []) is in
    let step : placed f (g ∷ drop (at + 1) fields) ≡ g ∷ placed f (drop (at + 1) fields) = rw above in
    passed ∙ ap (λ l. take at fields ++ placed f l) next ∙ ap (λ l. take at fields ++ l) step ∙ sym (append_assoc (take at fields) (g ∷ []) (placed f (drop (at + 1) fields))) ∙ ap (λ l. l ++ placed f (drop (at + 1) fields)) (sym front)

-- f is below the next one
pub stop : (f : Field) (fields : List Field) (at : ℕ) (g : Field) → at < length fields → get_or fields at g ≡ g → is_before f.name g.name ≡ true → IsPassed f fields at → placed f fields ≡ insert fields at f
stop f fields at g less is below passed =
    let next : drop at fields ≡ g ∷ drop (at + 1) fields = drop_more fields at g less ∙ ap (λ x. x ∷ drop (at + 1) fields) is in
    let step : placed f (g ∷ drop (at + 1) fields) ≡ f ∷ g ∷ drop (at + 1) fields = rw below in
    passed ∙ ap (λ l. take at fields ++ placed f l) next ∙ ap (λ l. take at fields ++ l) step ∙ ap (λ l. take at fields ++ f ∷ l) (sym next)

-- f is below none
pub last : (f : Field) (fields : List Field) (at : ℕ) → length fields ≤ at → IsPassed f fields at → placed f fields ≡ insert fields at f
last f fields at past passed =
    let none = drop_all at fields past in
    passed ∙ ap (λ l. take at fields ++ placed f l) none ∙ ap (λ l. take at fields ++ f ∷ l) (sym none)

-- ---- texts

-- the first text was written, and a front of the second
pub front_on : (got : Option (List ℕ)) (text : List ℕ) (mid : Option (List ℕ)) (body : List ℕ) (got' : Option (List ℕ)) → GotMore got text mid → WritesFront mid body got' → WritesFront got (text ++ body) got'
front_on got text mid body got' first front = record {
  written = text ++ front.written;
  front = (front.front.0, append_assoc text front.written front.front.0 ∙ ap (λ l. text ++ l) front.front.1);
  short = omega (arith, length-append text front.written, length-append text body, front.short);
  grew = got_more got text mid front.written got' first front.grew;
}

-- a front of the first text was written
pub front_of_both : (got : Option (List ℕ)) (text body : List ℕ) (got' : Option (List ℕ)) → WritesFront got text got' → WritesFront got (text ++ body) got'
front_of_both got text body got' front = record {
  written = front.written;
  front = (front.front.0 ++ body, sym (append_assoc front.written front.front.0 body) ∙ ap (λ l. l ++ body) front.front.1);
  short = omega (arith, length-append text body, front.short);
  grew = front.grew;
}

-- ---- lines

pub insert_line : (lines : List Line) (at : ℕ) (line : Line) → fields_of_lines (insert lines at line) ≡ insert (fields_of_lines lines) at (field_of_line line)
insert_line lines at line =
    map-append field_of_line (take at lines) (line ∷ drop at lines)
    ∙ ap (λ l. l ++ field_of_line line ∷ map field_of_line (drop at lines)) (sym (take-map field_of_line at lines))
    ∙ ap (λ l. take at (map field_of_line lines) ++ field_of_line line ∷ l) (sym (drop-map field_of_line at lines))

-- a line is not below the next one
pub pass_line : (line : Line) (lines : List Line) (at : ℕ) (d : Line) → at < length lines → is_before line.name.now (get_or lines at d).name.now ≡ false
    → IsPassed (field_of_line line) (fields_of_lines lines) at → IsPassed (field_of_line line) (fields_of_lines lines) (at + 1)
pass_line line lines at d less above passed =
    let g = field_of_line (get_or lines at d) in
    pass (field_of_line line) (fields_of_lines lines) at g (omega (arith, length-map lines field_of_line)) (get_or-map field_of_line lines at d g less) above passed

-- a line is below the next one
pub stop_line : (line : Line) (lines : List Line) (at : ℕ) (d : Line) → at < length lines → is_before line.name.now (get_or lines at d).name.now ≡ true
    → IsPassed (field_of_line line) (fields_of_lines lines) at → placed (field_of_line line) (fields_of_lines lines) ≡ insert (fields_of_lines lines) at (field_of_line line)
stop_line line lines at d less below passed =
    let g = field_of_line (get_or lines at d) in
    stop (field_of_line line) (fields_of_lines lines) at g (omega (arith, length-map lines field_of_line)) (get_or-map field_of_line lines at d g less) below passed
