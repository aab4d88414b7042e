-- The page that was asked for in a query is read from it.
use Rattle.std.proofs.Common.{◌≡◌, ◌≢◌, ℕ, ◌<◌, List, [], ◌∷◌, ◌++◌, length, take, nat_lt, All, Option, Some, None, IfSome, IsUtf8, IsAscii, codes, refl, sym, ap, ap₂, subst, ◌∙◌, arith, rules}
use Rattle.std.specs.Prelude.{◌==◌, bytes_eq, find, option_map}
use Rattle.std.specs.List.{AllByRecursion, position_or_len}
use Rattle.std.specs.Str.Lossy.{utf8_lossy}
use Rattle.std.proofs.lemmas.Bool.{cond-true, lt-ltb}
use Rattle.std.proofs.lemmas.List.{length-append}
use Rattle.std.proofs.lemmas.List.Elements.{All-nil, All-cons, All-append, All-weaker}
use Rattle.std.proofs.lemmas.List.Folds.{length-prefix_len}
use Rattle.std.proofs.lemmas.Str.{IsUtf8-from_ascii, utf8_lossy-IsUtf8}
use Rattle.std.proofs.lemmas.Str.Ascii.{IsAscii-nil, IsAscii-cons}
use Rattle.form_urlencoded.specs.Form.{raw_pairs, split, split_pair}
use Rattle.form_urlencoded.proofs.FormLemmas.{map-plus_to_space, raw_pairs-nil, raw_pairs_first, split_once_after_at, split_once_after_none, split_once_before_at, split_once_before_none}
use Rattle.percent_encoding.specs.Percent.{percent_decode}
use Rattle.mt_bytes.specs.Decimals.{decimal_number}
use Rattle.mt_path.specs.AccountPath.{AccountPath, path_text}
use Rattle.mt_path.specs.Names.{question_mark}
use Rattle.mt_request.specs.Query.{behind, first_pair, limit_in, marker_in, page_of, query_of, stand_in, stand_said, text_of}
use Rattle.mt_ask.specs.Requests.{escaped, marker_query, page_query, target_text}
use Rattle.mt_ask.proofs.Decoding.{IsTargetByte, decoded_again, target_bytes}
use Rattle.mt_ask.proofs.TextBytes.{text_bytes}

-- ---- what stands behind a question mark

query_behind : (front query : List ℕ) → All (λ b. b ≢ 63) front → query_of (front ++ 63 ∷ query) ≡ query
query_behind front query none =
    let target = front ++ 63 ∷ query in
    let place : ℕ = position_or_len (λ b. b == question_mark) target in
    let before : take place target ≡ front = split_once_before_at 63 front query none in
    let at : length front ≡ place = sym (ap length before) ∙ length-prefix_len _ target in
    let within : place < length target = omega (arith, at, length-append front (63 ∷ query)) in
    ap (behind target) (cond-true (nat_lt place (length target)) (Some place) None (lt-ltb place (length target) within))
    ∙ split_once_after_at 63 front query none

pub page_query_of : (login : List ℕ) (p : AccountPath) (marker : Option (List ℕ)) → query_of (target_text login p ++ page_query marker) ≡ codes "limit=256" ++ marker_query marker
page_query_of login p marker =
    query_behind (target_text login p) (codes "limit=256" ++ marker_query marker)
    (All-weaker IsTargetByte (λ b. b ≢ 63) (λ b is. is.no_question) (target_text login p) (target_bytes (path_text login p)))

-- ---- texts of names and values

letters : (xs : List ℕ) → AllByRecursion (λ b. b < 128) xs → IsAscii xs
letters [] all = IsAscii-nil
letters (x ∷ xs) all = IsAscii-cons x xs all.0 (letters xs all.1)

-- what was escaped is the text that it was
text_again : (text : List ℕ) → IsUtf8 text → text_of (escaped text) ≡ text
text_again text is =
    let plain = map-plus_to_space (escaped text) (All-weaker IsTargetByte (λ b. b ≢ 43) (λ b at. at.no_plus) (escaped text) (target_bytes text)) in
    ap (λ t. utf8_lossy (percent_decode t)) plain ∙ ap utf8_lossy (decoded_again text (text_bytes text is)) ∙ utf8_lossy-IsUtf8 text is

-- letters, digits and signs stand for themselves
said : (text : List ℕ) → escaped text ≡ text → IsAscii text → text_of text ≡ text
said text same ascii = ap text_of (sym same) ∙ text_again text (IsUtf8-from_ascii text ascii)

limit_said : text_of (codes "limit") ≡ codes "limit"
unfolding escaped
limit_said = said (codes "limit") refl (letters (codes "limit") (search rules))

marker_said : text_of (codes "marker") ≡ codes "marker"
unfolding escaped
marker_said = said (codes "marker") refl (letters (codes "marker") (search rules))

number_said : text_of (codes "256") ≡ codes "256"
unfolding escaped
number_said = said (codes "256") refl (letters (codes "256") (search rules))

-- ---- the pairs of a query

abbrev limit_pair : List ℕ × List ℕ
limit_pair = (codes "limit", codes "256")

pairs_first : raw_pairs (codes "limit=256") ≡ limit_pair ∷ []
unfolding raw_pairs split
pairs_first = refl

no_ampersand : (text : List ℕ) → All (λ b. b ≢ 38) (escaped text)
no_ampersand text = All-weaker IsTargetByte (λ b. b ≢ 38) (λ b is. is.no_ampersand) (escaped text) (target_bytes text)

others : (s : ℕ) (xs : List ℕ) → AllByRecursion (λ b. b ≢ s) xs → All (λ b. b ≢ s) xs
others s [] all = All-nil (λ b. b ≢ s)
others s (x ∷ xs) all = All-cons (λ b. b ≢ s) x xs all.0 (others s xs all.1)

marker_alone : (text : List ℕ) → raw_pairs (codes "marker=" ++ escaped text) ≡ (codes "marker", escaped text) ∷ []
marker_alone text =
    let bytes = codes "marker=" ++ escaped text in
    let clear : All (λ b. b ≢ 38) bytes = All-append (λ b. b ≢ 38) (codes "marker=") (escaped text) (others 38 (codes "marker=") (search rules)) (no_ampersand text) in
    let whole = split_once_before_none 38 bytes clear in
    let rest = split_once_after_none 38 bytes clear in
    let name = others 61 (codes "marker") (search rules) in
    let pair : split_pair bytes ≡ (codes "marker", escaped text) =
    ap₂ (λ (a b : List ℕ). (a, b)) (split_once_before_at 61 (codes "marker") (escaped text) name) (split_once_after_at 61 (codes "marker") (escaped text) name) in
    raw_pairs_first bytes (subst (λ (b : List ℕ). 0 < length b) (sym whole) (omega arith))
    ∙ ap₂ (λ (a b : List ℕ). split_pair a ∷ raw_pairs b) whole rest
    ∙ ap₂ (λ a b. a ∷ b) pair raw_pairs-nil

pairs_both : (text : List ℕ) → raw_pairs (codes "limit=256" ++ (codes "&marker=" ++ escaped text)) ≡ limit_pair ∷ (codes "marker", escaped text) ∷ []
pairs_both text =
    let behind = codes "marker=" ++ escaped text in
    let clear = others 38 (codes "limit=256") (search rules) in
    let first = split_once_before_at 38 (codes "limit=256") behind clear in
    let rest = split_once_after_at 38 (codes "limit=256") behind clear in
    raw_pairs_first (codes "limit=256" ++ 38 ∷ behind) (subst (λ (b : List ℕ). 0 < length b) (sym first) (omega arith))
    ∙ ap₂ (λ (a b : List ℕ). split_pair a ∷ raw_pairs b) first rest
    ∙ ap (λ more. limit_pair ∷ more) (marker_alone text)

-- ---- the page

abbrev value_in : List ℕ → List (List ℕ × List ℕ) → Option (List ℕ)
value_in name pairs = option_map (λ p. text_of p.1) (find (λ p. bytes_eq (text_of p.0) name) pairs)

limit_found : (pairs : List (List ℕ × List ℕ)) → value_in (codes "limit") (limit_pair ∷ pairs) ≡ Some (codes "256")
limit_found pairs = rw (limit_said) (ap Some number_said)

marker_missing : value_in (codes "marker") (limit_pair ∷ []) ≡ None
marker_missing = rw (limit_said) refl

marker_found : (text : List ℕ) → IsUtf8 text → value_in (codes "marker") (limit_pair ∷ (codes "marker", escaped text) ∷ []) ≡ Some text
marker_found text is = rw (limit_said, marker_said) (ap Some (text_again text is))

limit_is : limit_in (Some (codes "256")) ≡ Some 256
unfolding decimal_number
limit_is = refl

page_from : (query : List ℕ) (pairs : List (List ℕ × List ℕ)) (marker : Option (List ℕ)) → raw_pairs query ≡ limit_pair ∷ pairs
    → value_in (codes "marker") (limit_pair ∷ pairs) ≡ marker → page_of query ≡ Some (record { marker = marker_in marker; limit = 256 })
unfolding page_of
page_from query pairs marker are is =
    let limit : first_pair (codes "limit") query ≡ Some (codes "256") = ap (value_in (codes "limit")) are ∙ limit_found pairs in
    let found : first_pair (codes "marker") query ≡ marker = ap (value_in (codes "marker")) are ∙ is in
    rw (limit, found, limit_is) refl

pub page_read : (marker : Option (List ℕ)) → IfSome marker IsUtf8 → page_of (codes "limit=256" ++ marker_query marker) ≡ Some (record { marker = marker_in marker; limit = 256 })
page_read None is = page_from (codes "limit=256") [] None pairs_first marker_missing
page_read (Some text) is = page_from (codes "limit=256" ++ (codes "&marker=" ++ escaped text)) ((codes "marker", escaped text) ∷ []) (Some text) (pairs_both text) (marker_found text is)

pub marker_read : (login : List ℕ) (p : AccountPath) (marker : Option (List ℕ)) → IfSome marker IsUtf8
    → page_of (query_of (target_text login p ++ page_query marker)) ≡ Some (record { marker = marker_in marker; limit = 256 })
marker_read login p marker is = ap page_of (page_query_of login p marker) ∙ page_read marker is

-- ---- how jobs are to stand, which a page does not say

no_state : (query : List ℕ) (pairs : List (List ℕ × List ℕ)) → raw_pairs query ≡ pairs → value_in (codes "state") pairs ≡ None → stand_in query ≡ Some None
unfolding stand_in
no_state query pairs are none = ap stand_said (ap (value_in (codes "state")) are ∙ none)

state_missing : value_in (codes "state") (limit_pair ∷ []) ≡ None
state_missing = rw (limit_said) refl

state_missing_too : (text : List ℕ) → value_in (codes "state") (limit_pair ∷ (codes "marker", escaped text) ∷ []) ≡ None
state_missing_too text = rw (limit_said, marker_said) refl

pub state_unsaid : (marker : Option (List ℕ)) → stand_in (codes "limit=256" ++ marker_query marker) ≡ Some None
state_unsaid None = no_state (codes "limit=256") (limit_pair ∷ []) pairs_first state_missing
state_unsaid (Some text) =
    no_state (codes "limit=256" ++ (codes "&marker=" ++ escaped text)) (limit_pair ∷ (codes "marker", escaped text) ∷ []) (pairs_both text) (state_missing_too text)
