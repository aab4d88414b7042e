-- Records are written behind the closed gate, and then the gate is opened.
use Rattle.std.proofs.Common.{◌≡◌, ◌⊎◌, inl, inr, ℕ, ◌+◌, ◌<◌, ◌≤◌, Bool, true, false, true≢false, List, [], ◌∷◌, ◌++◌, length, min, get_or, take, drop, Ok, Some, refl, sym, ◌∙◌, ap, subst, arith, append_assoc, length-append, take-append-drop}
use Rattle.std.specs.Prelude.{IsOk}
use Rattle.std.proofs.lemmas.List.{take_at, drop_at, drop_more}
use Rattle.std.proofs.lemmas.List.Concat.{flat_map-append}
use Rattle.std.proofs.lemmas.Bool.{cases_eq}
use Rattle.std.proofs.lemmas.Bool.Decides.{nat_tests}
use Rattle.std.specs.List.{flat_map}
use Rattle.std.specs.Result.{result_unwrap_or}
use Rattle.std.proofs.lemmas.Option.{none-some}
use Rattle.mt_disk.specs.declared.disk.FileNo.{FileNo}
use Rattle.mt_disk.specs.declared.disk.FileNo.TheVariants.{Head, One, Two}
use Rattle.mt_disk.specs.Files.{Files, contents, with_contents, overwritten}
use Rattle.mt_disk.specs.CrashModel.{Torn}
use Rattle.mt_disk.proofs.FileLemmas.{overwritten_at}
use Rattle.mt_log.specs.LogImage.{AllFit, Fit, Holds, IsLogOf, ReadsAs, chosen_by, chosen_file, log_by, magic_of, payloads_by, payloads_in, payloads_of, record_of}
use Rattle.mt_log.proofs.Fronts.{length-holds}
use Rattle.mt_log.proofs.Walks.{log_by-holds, read_by}

pub fit-append : (ps qs : List (List ℕ)) → AllFit ps → AllFit qs → AllFit (ps ++ qs)
fit-append [] qs fit more = more
fit-append (p ∷ ps) qs fit more = (fit.0, fit-append ps qs fit.1 more)

-- the log stays in its file if that one alone is changed, and isn't cut short
pub chosen_stays : (files : Files) (file : FileNo) (b : List ℕ) → chosen_file files ≡ Some file → 9 ≤ length b → chosen_file (with_contents files file b) ≡ Some file
chosen_stays files Head b is long = absurd (never files.head files.two is)
  where
    never : (head two : List ℕ) → chosen_by head two ≡ Some Head → ⊥
    never [] two is = none-some Head is
    never (byte ∷ more) two is = grind (arith, nat_tests)
chosen_stays files One b is long = is
chosen_stays files Two b is long = still files.head files.two is
  where
    still : (head two : List ℕ) → chosen_by head two ≡ Some Two → chosen_by head b ≡ Some Two
    still [] two is = is
    still (byte ∷ more) two is = grind (arith, nat_tests)

-- files of which one is chosen have a Head
pub chosen_fit : (files : Files) (file : FileNo) → chosen_file files ≡ Some file → Fit files
chosen_fit files file is empty = absurd (none-some file (sym (ap (λ (head : List ℕ). chosen_by head files.two) empty) ∙ is))

pub payloads_chosen : (any : Bool) (files : Files) (file : FileNo) → chosen_file files ≡ Some file → payloads_by any files ≡ log_by any (contents files file)
payloads_chosen any files file is = ap (λ o. payloads_in any o files) is

-- files that differ in the log's file alone stand for what that file holds
pub record StandsFor (c : Files) (file : FileNo) (gate : ℕ) (old : Bool) (ps : List (List ℕ)) : Type 0 where
  pub is_chosen : chosen_file c ≡ Some file
  pub is : (any : Bool) → payloads_by any c ≡ read_by any old (Ok ps)
  pub log : IsLogOf c file gate old

pub stands_for : (files c : Files) (file : FileNo) (gate : ℕ) (old : Bool) (ps : List (List ℕ)) → chosen_file files ≡ Some file → c ≡ with_contents files file (contents c file) → Holds old (contents c file) gate ps
    → StandsFor c file gate old ps
stands_for files c file gate old ps is same holds =
    let long : 9 ≤ length (contents c file) = omega (arith, length-holds old _ _ _ holds) in
    let still : chosen_file c ≡ Some file = subst (λ f. chosen_file f ≡ Some file) (sym same) (chosen_stays files file (contents c file) is long) in
    let whole : (any : Bool) → payloads_by any c ≡ read_by any old (Ok ps) = λ any. payloads_chosen any c file still ∙ log_by-holds any old _ gate ps holds in
    record {
      is_chosen = still;
      is = whole;
      log = record { is_chosen = still; holds = subst (λ l. Holds old (contents c file) gate l) (sym (ap (λ r. result_unwrap_or r []) (whole true))) holds };
    }

taken : (any old : Bool) (before ps : List (List ℕ)) → IsOk (read_by any old (Ok before)) → read_by any old (Ok ps) ≡ Ok ps
taken true old before ps ok = refl
taken false true before ps ok = absurd (true≢false (sym ok))
taken false false before ps ok = refl

-- files that stand for these payloads are read so where the old ones could be read
pub reads_as : (files c : Files) (file : FileNo) (gate gate' : ℕ) (old : Bool) (ps : List (List ℕ)) → IsLogOf files file gate old → StandsFor c file gate' old ps → ReadsAs files c ps
reads_as files c file gate gate' old ps log stands = record {
  reads = λ any ok. stands.is any ∙ taken any old (payloads_of files) ps (subst (λ r. IsOk r) (payloads_chosen any files file log.is_chosen ∙ log_by-holds any old _ gate _ log.holds) ok);
  fit = chosen_fit c file stands.is_chosen;
}

module _ (old : Bool) (bytes : List ℕ) (gate : ℕ) (ps : List (List ℕ)) (holds : Holds old bytes gate ps) where
  pub size : length (magic_of old ++ flat_map record_of ps) ≡ gate
  size = sym holds.place

  pub gated : bytes ≡ ((magic_of old ++ flat_map record_of ps) ++ holds.byte ∷ []) ++ holds.tail
  gated = holds.whole ∙ sym (append_assoc (magic_of old ++ flat_map record_of ps) (holds.byte ∷ []) holds.tail)

  pub size_gated : length ((magic_of old ++ flat_map record_of ps) ++ holds.byte ∷ []) ≡ gate + 1
  size_gated = omega (arith, size, length-append (magic_of old ++ flat_map record_of ps) (holds.byte ∷ []))

  -- what stands behind the closed gate
  pub behind_gate : drop (gate + 1) bytes ≡ holds.tail
  behind_gate = ap (λ (l : List ℕ). drop (gate + 1) l) gated ∙ drop_at ((magic_of old ++ flat_map record_of ps) ++ holds.byte ∷ []) holds.tail (gate + 1) size_gated

  -- the closed gate and all before it
  pub holds_front : (b : List ℕ) → take (gate + 1) b ≡ take (gate + 1) bytes → Holds old b gate ps
  holds_front b same =
      let shut = (magic_of old ++ flat_map record_of ps) ++ holds.byte ∷ [] in
      let start : take (gate + 1) b ≡ shut = same ∙ ap (λ (l : List ℕ). take (gate + 1) l) gated ∙ take_at shut holds.tail (gate + 1) size_gated in
      record {
        byte = holds.byte;
        tail = drop (gate + 1) b;
        shut = holds.shut;
        place = holds.place;
        whole =
            sym (take-append-drop (gate + 1) b) ∙ ap (λ (l : List ℕ). l ++ drop (gate + 1) b) start
            ∙ append_assoc (magic_of old ++ flat_map record_of ps) (holds.byte ∷ []) (drop (gate + 1) b);
        each = holds.each;
      }

  -- these records stand behind the closed gate, but for the first one's gate, and then a closed one
  module _ (qs : List (List ℕ)) (body rest : List ℕ) (opens : 1 ∷ body ≡ flat_map record_of qs) (each : AllFit qs) (laid : holds.tail ≡ body ++ 0 ∷ rest) where
    laid_is : bytes ≡ (magic_of old ++ flat_map record_of ps) ++ holds.byte ∷ (body ++ 0 ∷ rest)
    laid_is = holds.whole ∙ ap (λ (l : List ℕ). (magic_of old ++ flat_map record_of ps) ++ holds.byte ∷ l) laid

    opened : (b : List ℕ) → b ≡ (magic_of old ++ flat_map record_of ps) ++ 1 ∷ (body ++ 0 ∷ rest) → Holds old b (gate + 1 + length body) (ps ++ qs)
    opened b now =
        let front = magic_of old ++ flat_map record_of ps in
        let more : front ++ flat_map record_of qs ≡ magic_of old ++ flat_map record_of (ps ++ qs) =
        append_assoc (magic_of old) (flat_map record_of ps) (flat_map record_of qs) ∙ ap (λ (l : List ℕ). magic_of old ++ l) (sym (flat_map-append record_of ps qs)) in
        record {
          byte = 0;
          tail = rest;
          shut = omega arith;
          place = omega (arith, size, ap length more, ap length opens, length-append front (flat_map record_of qs));
          whole = now ∙ sym (append_assoc front (1 ∷ body) (0 ∷ rest)) ∙ ap (λ (l : List ℕ). l ++ 0 ∷ rest) (ap (λ (l : List ℕ). front ++ l) opens ∙ more);
          each = fit-append ps qs holds.each each;
        }

    -- whatever byte stands at the gate
    either : (b : List ℕ) (x : ℕ) → b ≡ (magic_of old ++ flat_map record_of ps) ++ x ∷ (body ++ 0 ∷ rest) → Holds old b gate ps ⊎ Holds old b (gate + 1 + length body) (ps ++ qs)
    either b x is = elim (cases_eq x 1) [
      | inl is_open ↦ inr (opened b (is ∙ ap (λ y. (magic_of old ++ flat_map record_of ps) ++ y ∷ (body ++ 0 ∷ rest)) is_open))
      | inr shut ↦ inl (record { byte = x; tail = body ++ 0 ∷ rest; shut = shut; place = holds.place; whole = is; each = holds.each })
    ]

    -- what a crash leaves of the write at the gate
    pub torn_gate : (b : List ℕ) → Torn gate 1 bytes b → Holds old b gate ps ⊎ Holds old b (gate + 1 + length body) (ps ++ qs)
    torn_gate b torn =
        let front = magic_of old ++ flat_map record_of ps in
        let behind = body ++ 0 ∷ rest in
        let long : gate < length b = omega (arith, torn.no_shorter, ap length laid_is, length-append front (holds.byte ∷ behind), size) in
        let whole : min gate (length bytes) ≡ gate = omega (arith, ap length laid_is, length-append front (holds.byte ∷ behind), size) in
        let start : take gate b ≡ front = ap (λ n. take n b) (sym whole) ∙ torn.before ∙ ap (λ (l : List ℕ). take gate l) laid_is ∙ take_at front (holds.byte ∷ behind) gate size in
        let after : drop (gate + 1) b ≡ behind = torn.after ∙ (behind_gate ∙ laid) in
        either b (get_or b gate 0) (
        sym (take-append-drop gate b) ∙ ap (λ (l : List ℕ). l ++ drop gate b) start
        ∙ ap (λ (l : List ℕ). front ++ l) (drop_more b gate 0 long ∙ ap (λ (l : List ℕ). get_or b gate 0 ∷ l) after))

    -- and the write once it is done
    pub written_gate : (b : List ℕ) → b ≡ overwritten bytes gate (1 ∷ []) → Holds old b (gate + 1 + length body) (ps ++ qs)
    written_gate b is =
        let front = magic_of old ++ flat_map record_of ps in
        let behind = body ++ 0 ∷ rest in
        let now : b ≡ front ++ 1 ∷ behind =
        is ∙ ap (λ (l : List ℕ). overwritten l gate (1 ∷ [])) laid_is ∙ overwritten_at front (holds.byte ∷ behind) (1 ∷ []) gate size
        ∙ append_assoc front (1 ∷ []) behind in
        opened b now
