-- A head that is not too long stands at the front of whatever follows it.
use Rattle.std.proofs.Common.{◌≡◌, ◌≢◌, ℕ, ◌<◌, ◌≤◌, ◌^◌, true, nat_lt, List, [], ◌∷◌, ◌++◌, length, All, IsTrue, Option, codes, refl, sym, ap, subst, ◌∙◌, arith, append_assoc, append-nil, length-append}
use Rattle.std.specs.List.{flat_map, list_all}
use Rattle.std.proofs.lemmas.Bool.{false≢true, ltb-true}
use Rattle.std.proofs.lemmas.List.{same_from_push}
use Rattle.std.proofs.lemmas.List.Elements.{All-nil, All-cons, All-head, All-tail, All-append, All-weaker}
use Rattle.httparse.specs.Grammar.{LineEnd, crlf, is_token_byte, is_value_byte, lf, print_end}
use Rattle.mt_http.specs.Framing.{EndsWithEmptyLine, IsHead}
use Rattle.mt_http.specs.Message.{IsClean}
use Rattle.mt_http.specs.Reading.{IsHeadFront}
use Rattle.mt_http.proofs.EndsWith.{front_more}
use Rattle.mt_http.proofs.Heads.{front_push, head_push, nothing_fronts}
use Rattle.mt_types.specs.declared.object.Field.{Field}
use Rattle.mt_ask.specs.Requests.{body_len, field_line, fields_of, method_of, request_head, request_line, target_of}
use Rattle.mt_ask.specs.declared.ask.Ask.{Ask}
use Rattle.mt_ask.specs.declared.ask.Ask.TheVariants as asks
use Rattle.mt_ask.specs.declared.ask.PageAsk.{PageAsk}
use Rattle.mt_ask.specs.declared.ask.Words.{Words}
use Rattle.mt_asked.specs.Laws.{HeadsStand}
use Rattle.mt_asked.proofs.Heads.{IsShown, all_clean, head_read, passing, shown_target}

-- ---- bytes that are no line feed

abbrev NoFeed : ℕ → Type 0
NoFeed b = b ≢ 10

-- the bytes of a literal
text_none : (xs : List ℕ) → list_all (λ b. nat_lt 31 b) xs ≡ true → All NoFeed xs
text_none xs pass = All-weaker (λ b. IsTrue (nat_lt 31 b)) NoFeed (λ b is e. omega (arith, ltb-true 31 b is, e)) xs (passing (λ b. nat_lt 31 b) xs pass)

token_none : (b : ℕ) → is_token_byte b ≡ true → b ≢ 10
unfolding is_token_byte
token_none b is e = false≢true (rw e at is)

value_none : (b : ℕ) → is_value_byte b ≡ true → b ≢ 10
value_none b is e = false≢true (rw e at is)

return_none : All NoFeed (13 ∷ [])
return_none = All-cons NoFeed 13 [] (λ e. omega (arith, e)) (All-nil NoFeed)

-- ---- last bytes

last_is : (xs : List ℕ) → 0 < length xs → (ys : List ℕ) × (y : ℕ) × (xs ≡ ys ++ y ∷ [])
last_is [] some = absurd (omega (arith, some))
last_is (x ∷ []) some = ([], x, refl)
last_is (x ∷ y ∷ xs) some =
    let w = last_is (y ∷ xs) (omega arith) in
    (x ∷ w.0, w.1, ap (λ (l : List ℕ). x ∷ l) w.2)

no_last : (xs ys : List ℕ) → All NoFeed xs → xs ≡ ys ++ 10 ∷ [] → ⊥
no_last [] [] all is = cc
no_last [] (y ∷ ys) all is = cc
no_last (x ∷ xs) [] all is =
    let feed : x ≡ 10 = cc in
    All-head NoFeed x xs all feed
no_last (x ∷ xs) (y ∷ ys) all is =
    let more : xs ≡ ys ++ 10 ∷ [] = cc in
    no_last xs ys (All-tail NoFeed x xs all) more

no_last_behind : (old line front : List ℕ) → 0 < length line → All NoFeed line → old ++ line ≡ front ++ 10 ∷ [] → ⊥
no_last_behind old line front some all is =
    let w = last_is line some in
    let same = same_from_push (old ++ w.0) front w.1 10 (append_assoc old w.0 (w.1 ∷ []) ∙ ap (λ (l : List ℕ). old ++ l) (sym w.2) ∙ is) in
    no_last line w.0 all (w.2 ∙ ap (λ (b : ℕ). w.0 ++ b ∷ []) same.1)

-- ---- a line goes on with a head

not_line : (bytes : List ℕ) → 2 ≤ length bytes → ¬ ((line : LineEnd) × (bytes ++ 10 ∷ [] ≡ print_end line))
not_line bytes long (lf, is) = absurd (omega (arith, ap length is, length-append bytes (10 ∷ []), long))
not_line bytes long (crlf, is) = absurd (omega (arith, ap length is, length-append bytes (10 ∷ []), long))

line_open : (old line : List ℕ) → 0 < length line → All NoFeed line → ¬ (EndsWithEmptyLine (((old ++ line) ++ 13 ∷ []) ++ 10 ∷ []))
line_open old line some all (front, lf, is) =
    let last = same_from_push ((old ++ line) ++ 13 ∷ []) (front ++ 10 ∷ []) 10 10 (is ∙ sym (append_assoc front (10 ∷ []) (10 ∷ []))) in
    let before = same_from_push (old ++ line) front 13 10 last.0 in
    absurd (omega (arith, before.1))
line_open old line some all (front, crlf, is) =
    let last = same_from_push ((old ++ line) ++ 13 ∷ []) (front ++ 10 ∷ 13 ∷ []) 10 10 (is ∙ sym (append_assoc front (10 ∷ 13 ∷ []) (10 ∷ []))) in
    let before = same_from_push (old ++ line) (front ++ 10 ∷ []) 13 13 (last.0 ∙ sym (append_assoc front (10 ∷ []) (13 ∷ []))) in
    no_last_behind old line front some all before.0

line_front : (old line : List ℕ) → IsHeadFront old → 0 < length line → All NoFeed line → IsHeadFront (old ++ (line ++ 13 ∷ 10 ∷ []))
line_front old line front some all =
    let most : IsHeadFront (old ++ (line ++ 13 ∷ [])) = front_more old (line ++ 13 ∷ []) front (λ k less. All-append NoFeed line (13 ∷ []) all return_none k 0 less) in
    let here : IsHeadFront ((old ++ line) ++ 13 ∷ []) = subst IsHeadFront (sym (append_assoc old line (13 ∷ []))) most in
    let long : 2 ≤ length ((old ++ line) ++ 13 ∷ []) = omega (arith, some, length-append (old ++ line) (13 ∷ []), length-append old line) in
    let whole = front_push ((old ++ line) ++ 13 ∷ []) 10 here (not_line ((old ++ line) ++ 13 ∷ []) long) (line_open old line some all) in
    subst IsHeadFront (append_assoc (old ++ line) (13 ∷ []) (10 ∷ []) ∙ append_assoc old line (13 ∷ 10 ∷ [])) whole

-- ---- the lines of fields

abbrev line_text : Field → List ℕ
line_text f = f.name ++ codes ": " ++ f.value

record IsLine (f : Field) : Type 0 where
  some : 0 < length (line_text f)
  none : All NoFeed (line_text f)

clean_line : (f : Field) → IsClean f → IsLine f
clean_line f clean = record {
  some = omega (arith, clean.name.0, length-append (f.name ++ codes ": ") f.value, length-append f.name (codes ": "));
  none = All-append NoFeed (f.name ++ codes ": ") f.value
      (All-append NoFeed f.name (codes ": ") (All-weaker (λ b. IsTrue (is_token_byte b)) NoFeed token_none f.name clean.name.1) (text_none (codes ": ") refl))
      (All-weaker (λ b. IsTrue (is_value_byte b)) NoFeed value_none f.value clean.value);
}

fields_front : (fs : List Field) (old : List ℕ) → IsHeadFront old → All IsLine fs → IsHeadFront (old ++ flat_map field_line fs)
fields_front [] old front all = subst IsHeadFront (sym (append-nil old)) front
fields_front (f ∷ fs) old front all =
    let line = All-head IsLine f fs all in
    let more = line_front old (line_text f) front line.some line.none in
    subst IsHeadFront (append_assoc old (field_line f) (flat_map field_line fs)) (fields_front fs (old ++ field_line f) more (All-tail IsLine f fs all))

abbrev EndsInFeed : List ℕ → Type 0
EndsInFeed xs = (front : List ℕ) × (xs ≡ front ++ 10 ∷ [])

line_fed : (old line : List ℕ) → EndsInFeed (old ++ (line ++ 13 ∷ 10 ∷ []))
line_fed old line = (
  old ++ (line ++ 13 ∷ []),
  ap (λ (l : List ℕ). old ++ l) (sym (append_assoc line (13 ∷ []) (10 ∷ []))) ∙ sym (append_assoc old (line ++ 13 ∷ []) (10 ∷ [])),
)

fed : (fs : List Field) (old : List ℕ) → EndsInFeed old → EndsInFeed (old ++ flat_map field_line fs)
fed [] old is = subst EndsInFeed (sym (append-nil old)) is
fed (f ∷ fs) old is = subst EndsInFeed (append_assoc old (field_line f) (flat_map field_line fs)) (fed fs (old ++ field_line f) (line_fed old (line_text f)))

-- ---- the head

ended : (xs : List ℕ) → IsHeadFront xs → EndsInFeed xs → IsHead (xs ++ 13 ∷ 10 ∷ [])
ended xs front feed =
    let here : IsHeadFront (xs ++ 13 ∷ []) = front_more xs (13 ∷ []) front (λ k less. return_none k 0 less) in
    let ends : EndsWithEmptyLine ((xs ++ 13 ∷ []) ++ 10 ∷ []) =
    (feed.0, crlf, append_assoc xs (13 ∷ []) (10 ∷ []) ∙ ap (λ (l : List ℕ). l ++ 13 ∷ 10 ∷ []) feed.1 ∙ append_assoc feed.0 (10 ∷ []) (13 ∷ 10 ∷ [])) in
    let long : 2 ≤ length (xs ++ 13 ∷ []) = omega (arith, ap length feed.1, length-append feed.0 (10 ∷ []), length-append xs (13 ∷ [])) in
    subst IsHead (append_assoc xs (13 ∷ []) (10 ∷ [])) (head_push (xs ++ 13 ∷ []) 10 here (not_line (xs ++ 13 ∷ []) long) ends)

method_none : (ask : Ask) → All NoFeed (method_of ask)
method_none (asks.List p) = text_none (codes "GET") refl
method_none (asks.Find p) = text_none (codes "GET") refl
method_none (asks.Get p) = text_none (codes "GET") refl
method_none (asks.Put p) = text_none (codes "PUT") refl
method_none (asks.MakeDirectory p) = text_none (codes "PUT") refl
method_none (asks.Remove p) = text_none (codes "DELETE") refl
method_none (asks.Link source p) = text_none (codes "PUT") refl
method_none asks.CreateJob = text_none (codes "POST") refl
method_none (asks.AddInputs n) = text_none (codes "POST") refl
method_none (asks.EndInput n) = text_none (codes "POST") refl
method_none (asks.CancelJob n) = text_none (codes "POST") refl
method_none (asks.JobStatus n) = text_none (codes "GET") refl
method_none (asks.JobOutputs n) = text_none (codes "GET") refl

-- the first line without its end
abbrev first_text : List ℕ → List ℕ → List ℕ
first_text method target = method ++ codes " " ++ target ++ codes " HTTP/1.1"

first_some : (method target : List ℕ) → 0 < length (first_text method target)
first_some method target = omega (arith, length-append ((method ++ codes " ") ++ target) (codes " HTTP/1.1"))

first_none : (w : Words) (page : Option PageAsk) → All NoFeed (first_text (method_of w.ask) (target_of w.login w.ask page))
first_none w page =
    let method = method_of w.ask in
    let target = target_of w.login w.ask page in
    let shown = All-weaker IsShown NoFeed (λ b is e. omega (arith, is.0, e)) target (shown_target w.login w.ask page) in
    All-append NoFeed ((method ++ codes " ") ++ target) (codes " HTTP/1.1")
    (All-append NoFeed (method ++ codes " ") target (All-append NoFeed method (codes " ") (method_none w.ask) (text_none (codes " ") refl)) shown)
    (text_none (codes " HTTP/1.1") refl)

head_whole : (w : Words) (page : Option PageAsk) (len : ℕ) → All IsClean (fields_of w len) → IsHead (request_head w page len)
unfolding request_head
head_whole w page len clean =
    let method = method_of w.ask in
    let target = target_of w.login w.ask page in
    let fields = fields_of w len in
    let first : IsHeadFront (request_line method target) = line_front [] (first_text method target) nothing_fronts (first_some method target) (first_none w page) in
    ended (request_line method target ++ flat_map field_line fields)
    (fields_front fields (request_line method target) first (All-weaker IsClean IsLine clean_line fields clean))
    (fed fields (request_line method target) (line_fed [] (first_text method target)))

pub head_stands : HeadsStand
head_stands w page len is small short rest =
    let fits : body_len w.ask len < 2 ^ 64 = omega (arith, small) in
    let read = head_read w page len is small in
    record {
      text = request_head w page len;
      h = read.0;
      stands = record { lines = []; split = refl; whole = head_whole w page len (all_clean w len is fits); small = short };
      reads = read.1;
      says = read.2;
    }
