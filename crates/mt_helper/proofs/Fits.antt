-- What words ask for fits: texts are short, and one record at least is made.
use Rattle.std.proofs.Common.{◌≡◌, ℕ, suc, ◌<◌, ◌≤◌, Bool, true, false, cond, List, [], ◌∷◌, length, Option, Some, None, Ok, Err, refl, ap, subst, arith}
use Rattle.std.specs.Prelude.{◌&&◌, IfSome, IsTrue, bytes_eq, codes, nat_le, option_map, option_and_then}
use Rattle.std.specs.List.{AllByRecursion, list_all}
use Rattle.std.specs.Result.{result_ok}
use Rattle.std.proofs.lemmas.Bool.{and_parts, leb-true, le-leb}
use Rattle.std.proofs.lemmas.List.{length-append}
use Rattle.mt_bytes.specs.Decimals.{decimal_number}
use Rattle.mt_path.specs.AccountPath.{AccountPath, IsPath, area_name, is_login, is_login_byte, path_text, slashed}
use Rattle.mt_path.specs.Names.{path_of_text}
use Rattle.mt_path.specs.declared.limits.TheConstants.{LONGEST_LOGIN}
use Rattle.mt_split.specs.declared.key.KeyRule.{KeyRule}
use Rattle.mt_records.specs.Heads.{is_short}
use Rattle.mt_records.specs.declared.limits.TheConstants.{LONGEST_TEXT}
use Rattle.mt_helper.proofs.Paths.{path_named}
use Rattle.mt_helper.specs.declared.limits.TheConstants.{MOST_PARTS}
use Rattle.mt_helper.specs.declared.options.SplitOptions.{SplitOptions}
use Rattle.mt_helper.specs.declared.status.Refusal.TheVariants as refusal
use Rattle.mt_helper.specs.declared.tool.Tool.{Tool}
use Rattle.mt_helper.specs.declared.tool.Tool.TheVariants.{Pipe, Tee, Cat, Split}
use Rattle.mt_helper.specs.Helping.{IsFit}
use Rattle.mt_helper.specs.Words.{asked_by, byte_in, cat_of, fields_in, no_option, number_within, once, options_from, or_bad_path, pipe_of, piped, piped_to, place_text, place_texts, placed, placed_or, reducer_in, rule_by, split_by, split_into, split_of, tee_of, tool_of, with_option, within}

-- ---- how many records a tool makes

-- it makes one record at least
abbrev pub MakesSome : Tool → Type 0
MakesSome (Pipe place reducer) = Unit {0}
MakesSome (Tee place) = Unit {0}
MakesSome (Cat names) = 0 < length names
MakesSome (Split count rule) = 0 < count

-- what holds of the value of an option, if it has one
abbrev Holds : {A : Type 0} → (A → Type 0) → Option A → Type 0
Holds P o = IfSome o P

chosen : {A : Type 0} (P : A → Type 0) (b : Bool) (x y : Option A) → Holds P x → Holds P y → Holds P (cond b x y)
chosen P true x y one other = one
chosen P false x y one other = other

mapped : {A B : Type 0} (P : B → Type 0) (f : A → B) (o : Option A) → ((a : A) → o ≡ Some a → P (f a)) → Holds P (option_map f o)
mapped P f None each = tt
mapped P f (Some a) each = each a refl

then_holds : {A B : Type 0} (P : B → Type 0) (f : A → Option B) (o : Option A) → ((a : A) → o ≡ Some a → Holds P (f a)) → Holds P (option_and_then f o)
then_holds P f None each = tt
then_holds P f (Some a) each = each a refl

piped_some : (reducer : Option ℕ) (words : List (List ℕ)) → Holds MakesSome (piped reducer words)
piped_some reducer [] = tt
piped_some reducer (word ∷ []) = chosen MakesSome (bytes_eq word (codes "-r")) None (Some (Pipe (Some word) reducer)) tt tt
piped_some reducer (word ∷ other ∷ words) = tt

piped_to_some : (words : List (List ℕ)) → Holds MakesSome (piped_to words)
piped_to_some [] = tt
piped_to_some (value ∷ words) = then_holds MakesSome (λ n. piped (Some n) words) (reducer_in value) (λ n e. piped_some (Some n) words)

pipe_some : (words : List (List ℕ)) → Holds MakesSome (pipe_of words)
pipe_some [] = tt
pipe_some (word ∷ words) = chosen MakesSome (bytes_eq word (codes "-r")) (piped_to words) (piped None (word ∷ words)) (piped_to_some words) (piped_some None (word ∷ words))

tee_some : (words : List (List ℕ)) → Holds MakesSome (tee_of words)
tee_some [] = tt
tee_some (word ∷ []) = tt
tee_some (word ∷ other ∷ words) = tt

cat_some : (words : List (List ℕ)) → Holds MakesSome (cat_of words)
cat_some [] = tt
cat_some (word ∷ words) = omega arith

-- ---- the number of parts

abbrev HasParts : Option ℕ → Type 0
HasParts o = Holds (λ n. 0 < n) o

counted : (o : Option ℕ) → HasParts (within 1 MOST_PARTS o)
counted None = tt
counted (Some n) = here (nat_le 1 n) (nat_le n MOST_PARTS) refl
  where
    here : (a b : Bool) → nat_le 1 n ≡ a → HasParts (cond (a && b) (Some n) None)
    here true true is = omega (arith, leb-true 1 n is)
    here true false is = tt
    here false b is = tt

abbrev KeepsParts : SplitOptions → Type 0
KeepsParts o = HasParts o.count

once_keeps : (old value : Option ℕ) → HasParts value → Holds (λ (x : Option ℕ). HasParts x) (once old value)
once_keeps (Some n) value has = tt
once_keeps None None has = tt
once_keeps None (Some n) has = has

with_keeps : (o : SplitOptions) (name value : List ℕ) → KeepsParts o → Holds KeepsParts (with_option o name value)
with_keeps o name value has =
    chosen KeepsParts (bytes_eq name (codes "-n")) _ _
    (number (once o.count (number_within 1 MOST_PARTS value)) (once_keeps o.count (number_within 1 MOST_PARTS value) (counted (decimal_number value))))
    (chosen KeepsParts (bytes_eq name (codes "-d")) _ _ (mapped KeepsParts (λ x. record o { delimiter = x }) (once o.delimiter (byte_in value)) (λ x e. has))
    (chosen KeepsParts (bytes_eq name (codes "-f")) _ _ (mapped KeepsParts (λ x. record o { fields = x }) (once o.fields (fields_in value)) (λ x e. has)) tt))
  where
    number : (r : Option (Option ℕ)) → Holds (λ (x : Option ℕ). HasParts x) r → Holds KeepsParts (option_map (λ x. record o { count = x }) r)
    number None all = tt
    number (Some x) all = all

options_keep : (o : SplitOptions) (words : List (List ℕ)) → KeepsParts o → Holds KeepsParts (options_from o words)
options_keep o [] has = has
options_keep o (name ∷ []) has = tt
options_keep o (name ∷ value ∷ words) has = next (with_option o name value) (with_keeps o name value has) (λ more all. options_keep more words all)
  where
    next : (r : Option SplitOptions) → Holds KeepsParts r → ((more : SplitOptions) → KeepsParts more → Holds KeepsParts (options_from more words)) → Holds KeepsParts (option_and_then (λ more. options_from more words) r)
    next None all others = tt
    next (Some more) all others = others more all

into_some : (count : Option ℕ) (rule : Option KeyRule) → HasParts count → Holds MakesSome (split_into count rule)
into_some None rule has = tt
into_some (Some n) None has = tt
into_some (Some n) (Some rule) has = has

split_some : (words : List (List ℕ)) → Holds MakesSome (split_of words)
split_some words = next (options_from no_option words) (options_keep no_option words tt)
  where
    next : (r : Option SplitOptions) → Holds KeepsParts r → Holds MakesSome (option_and_then split_by r)
    next None all = tt
    next (Some o) all = into_some o.count (rule_by o.delimiter o.fields) all

tool_some : (name : List ℕ) (words : List (List ℕ)) → Holds MakesSome (tool_of name words)
tool_some name words =
    chosen MakesSome (bytes_eq name (codes "mpipe")) _ _ (pipe_some words)
    (chosen MakesSome (bytes_eq name (codes "mtee")) _ _ (tee_some words)
    (chosen MakesSome (bytes_eq name (codes "mcat")) _ _ (cat_some words)
    (chosen MakesSome (bytes_eq name (codes "msplit")) _ _ (split_some words) tt)))

-- ---- how long texts are

-- the text of a path is a short one
path_short : (login : List ℕ) (p : AccountPath) → is_login login ≡ true → IsPath p → IsTrue (is_short (path_text login p))
unfolding path_text
path_short login p is path =
    let a = and_parts (nat_le 1 (length login)) (nat_le (length login) LONGEST_LOGIN && list_all is_login_byte login) is in
    let b = and_parts (nat_le (length login) LONGEST_LOGIN) (list_all is_login_byte login) a.1 in
    let few : length login ≤ LONGEST_LOGIN = leb-true (length login) LONGEST_LOGIN b.0 in
    le-leb (length (slashed (login ∷ area_name p.area ∷ p.parts))) LONGEST_TEXT (omega (arith, length-append login (slashed (area_name p.area ∷ p.parts)), few, path.short))

abbrev IsShortText : List ℕ → Type 0
IsShortText t = IsTrue (is_short t)

place_short : (login text : List ℕ) → is_login login ≡ true → Holds IsShortText (place_text login text)
place_short login text is = mapped IsShortText (path_text login) (result_ok (path_of_text login text)) (λ p e. path_short login p is (path_named login text p e))

-- so many texts, each short
abbrev AreShort : ℕ → List (List ℕ) → Type 0
AreShort n texts = (length texts ≡ n) × AllByRecursion IsShortText texts

places_short : (login : List ℕ) (texts : List (List ℕ)) → is_login login ≡ true → Holds (AreShort (length texts)) (place_texts login texts)
places_short login [] is = (refl, tt)
places_short login (text ∷ texts) is = next (place_text login text) (place_texts login texts) (place_short login text is) (places_short login texts is)
  where
    next : (o : Option (List ℕ)) (rest : Option (List (List ℕ))) → Holds IsShortText o → Holds (AreShort (length texts)) rest → Holds (AreShort (suc (length texts))) (option_and_then (λ a. option_map (λ others. a ∷ others) rest) o)
    next None rest one others = tt
    next (Some a) None one others = tt
    next (Some a) (Some xs) one others = (ap suc others.0, (one, others.1))

placed_fit : (login : List ℕ) (tool : Tool) → is_login login ≡ true → MakesSome tool → Holds IsFit (placed login tool)
placed_fit login (Pipe None reducer) is some = tt
placed_fit login (Pipe (Some place) reducer) is some = next (place_text login place) (place_short login place is)
  where
    next : (o : Option (List ℕ)) → Holds IsShortText o → Holds IsFit (option_map (λ p. Pipe (Some p) reducer) o)
    next None one = tt
    next (Some p) one = one
placed_fit login (Tee place) is some = next (place_text login place) (place_short login place is)
  where
    next : (o : Option (List ℕ)) → Holds IsShortText o → Holds IsFit (option_map (λ p. Tee p) o)
    next None one = tt
    next (Some p) one = one
placed_fit login (Cat names) is some = next (place_texts login names) (places_short login names is)
  where
    next : (o : Option (List (List ℕ))) → Holds (AreShort (length names)) o → Holds IsFit (option_map (λ ps. Cat ps) o)
    next None all = tt
    next (Some ps) all = let count = all.0 in (omega (arith, count, some), all.1)
placed_fit login (Split count rule) is some = some

-- ---- all words

or_fit : (o : Option Tool) (tool : Tool) → Holds IsFit o → or_bad_path o ≡ Ok tool → IsFit tool
or_fit None tool fit e = absurd (cc)
or_fit (Some t) tool fit e = let same : t ≡ tool = cc in subst IsFit same fit

placed_or_fit : (login : List ℕ) (o : Option Tool) (tool : Tool) → is_login login ≡ true → Holds MakesSome o → placed_or login o ≡ Ok tool → IsFit tool
placed_or_fit login None tool is some e = absurd (cc)
placed_or_fit login (Some t) tool is some e = or_fit (placed login t) tool (placed_fit login t is some) e

-- what words ask for fits
pub asked_fit : (words : List (List ℕ)) (tool : Tool) → asked_by words ≡ Ok tool → IsFit tool
asked_fit [] tool e = absurd (cc)
asked_fit (login ∷ []) tool e = absurd (cc)
asked_fit (login ∷ name ∷ words) tool e = here (is_login login) refl e
  where
    here : (b : Bool) → is_login login ≡ b → cond b (placed_or login (tool_of name words)) (Err refusal.Usage) ≡ Ok tool → IsFit tool
    here true is found = placed_or_fit login (tool_of name words) tool is (tool_some name words) found
    here false is found = absurd (cc)
