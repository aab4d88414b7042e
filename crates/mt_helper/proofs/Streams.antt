-- What is read and goes on, piece by piece.
use Rattle.std.proofs.Common.{◌≡◌, ℕ, ◌+◌, ◌<◌, ◌≤◌, Bool, true, false, cond, List, [], ◌∷◌, ◌++◌, length, Option, Some, None, option_map, refl, ap, sym, subst, ◌∙◌, arith, append-nil, append_assoc, length-append}
use Rattle.std.specs.Prelude.{◌==◌, ◌||◌, IfSome, Err}
use Rattle.mt_base.specs.Lists.{IsPrefixOf}
use Rattle.mt_edge.specs.Stream.{GotMore, LeftAfter, WritesFront}
use Rattle.mt_edge.proofs.Streams.{got_more, got_nothing, left_after, left_all}
use Rattle.mt_spawn.specs.Spools.{AppendsFront, SpoolFile, has_file, with_bytes}
use Rattle.mt_spawn.proofs.SpoolBytes.{with_nothing}
use Rattle.mt_helper.specs.declared.limits.TheConstants.{LARGEST_INPUT}
use Rattle.mt_helper.specs.declared.status.Status.{Status}
use Rattle.mt_helper.specs.declared.status.Status.TheVariants.{Done, Usage, BadPath, SourceFault, SinkFault, SpoolFault, NumbersTaken, InputTooLarge, OutOfMemory}
use Rattle.mt_helper.specs.Ends.{AreLater, Ends}
use Rattle.mt_helper.specs.Streaming.{HasPassed, Moved, MovedFront, PumpedFront, copied_of}

-- one piece more at the end of a file
pub bytes_twice : (n : ℕ) (a b : List ℕ) (fs : List SpoolFile) → with_bytes n b (with_bytes n a fs) ≡ with_bytes n (a ++ b) fs
bytes_twice n a b [] = refl
bytes_twice n a b (f ∷ fs) = here (n == f.number) refl (bytes_twice n a b fs)
  where
    other : (c : Bool) → c ≡ false → cond {A = List SpoolFile} c (record f { bytes = f.bytes ++ b } ∷ with_bytes n a fs) (f ∷ with_bytes n b (with_bytes n a fs)) ≡ f ∷ with_bytes n b (with_bytes n a fs)
    other c is = ap (λ (c : Bool). cond {A = List SpoolFile} c (record f { bytes = f.bytes ++ b } ∷ with_bytes n a fs) (f ∷ with_bytes n b (with_bytes n a fs))) is

    same : (c : Bool) → c ≡ true → cond {A = List SpoolFile} c (record f { bytes = (f.bytes ++ a) ++ b } ∷ fs) (record f { bytes = f.bytes ++ a } ∷ with_bytes n b fs) ≡ record f { bytes = f.bytes ++ (a ++ b) } ∷ fs
    same c is =
        ap (λ (c : Bool). cond {A = List SpoolFile} c (record f { bytes = (f.bytes ++ a) ++ b } ∷ fs) (record f { bytes = f.bytes ++ a } ∷ with_bytes n b fs)) is
        ∙ ap (λ (bytes : List ℕ). record f { bytes = bytes } ∷ fs) (append_assoc f.bytes a b)

    here : (c : Bool) → (n == f.number) ≡ c → with_bytes n b (with_bytes n a fs) ≡ with_bytes n (a ++ b) fs
        → with_bytes n b (cond {A = List SpoolFile} c (record f { bytes = f.bytes ++ a } ∷ fs) (f ∷ with_bytes n a fs)) ≡ cond {A = List SpoolFile} c (record f { bytes = f.bytes ++ (a ++ b) } ∷ fs) (f ∷ with_bytes n (a ++ b) fs)
    here true is others = same (n == f.number) is
    here false is others = other (n == f.number) is ∙ ap (λ l. f ∷ l) others

-- pieces that went into a file one after another
pub added_more : (n : ℕ) (a b : List ℕ) (was between now : Option (List SpoolFile)) → between ≡ option_map (with_bytes n a) was → now ≡ option_map (with_bytes n b) between → now ≡ option_map (with_bytes n (a ++ b)) was
added_more n a b None between now first second = second ∙ ap (option_map (with_bytes n b)) first
added_more n a b (Some fs) between now first second = second ∙ ap (option_map (with_bytes n b)) first ∙ ap (λ (l : List SpoolFile). Some l) (bytes_twice n a b fs)

pub added_none : (n : ℕ) (was : Option (List SpoolFile)) → was ≡ option_map (with_bytes n []) was
added_none n None = refl
added_none n (Some fs) = sym (ap (λ (l : List SpoolFile). Some l) (with_nothing n fs))

-- a file that is there stays
pub still_has : (m n : ℕ) (bytes : List ℕ) (fs : List SpoolFile) → has_file m (with_bytes n bytes fs) ≡ has_file m fs
still_has m n bytes [] = refl
still_has m n bytes (f ∷ fs) = here (n == f.number) (still_has m n bytes fs)
  where
    here : (c : Bool) → has_file m (with_bytes n bytes fs) ≡ has_file m fs → has_file m (cond {A = List SpoolFile} c (record f { bytes = f.bytes ++ bytes } ∷ fs) (f ∷ with_bytes n bytes fs)) ≡ ((m == f.number) || has_file m fs)
    here true others = refl
    here false others = ap (λ (b : Bool). (m == f.number) || b) others

pub stays_there : (m n : ℕ) (bytes : List ℕ) (was now : Option (List SpoolFile)) → now ≡ option_map (with_bytes n bytes) was → IfSome was (λ fs. has_file m fs ≡ true) → IfSome now (λ fs. has_file m fs ≡ true)
stays_there m n bytes None now is there = subst (λ (o : Option (List SpoolFile)). IfSome o (λ fs. has_file m fs ≡ true)) (sym is) tt
stays_there m n bytes (Some fs) now is there = subst (λ (o : Option (List SpoolFile)). IfSome o (λ fs. has_file m fs ≡ true)) (sym is) (still_has m n bytes fs ∙ there)

-- ---- fronts

pub front_of_all : (xs : List ℕ) → IsPrefixOf xs xs
front_of_all xs = ([], append-nil xs)

pub no_front : (xs : List ℕ) → IsPrefixOf [] xs
no_front xs = (xs, refl)

-- a front of what comes behind
pub front_behind : (xs ys zs : List ℕ) → IsPrefixOf ys zs → IsPrefixOf (xs ++ ys) (xs ++ zs)
front_behind xs ys zs front = (front.0, append_assoc xs ys front.0 ∙ ap (λ (l : List ℕ). xs ++ l) front.1)

-- a front of the first part
pub front_before : (xs ys zs : List ℕ) → IsPrefixOf xs ys → IsPrefixOf xs (ys ++ zs)
front_before xs ys zs front = (front.0 ++ zs, sym (append_assoc xs front.0 zs) ∙ ap (λ (l : List ℕ). l ++ zs) front.1)

-- ---- copies

pub copied_more : (copies : Bool) (a b : List ℕ) → copied_of copies (a ++ b) ≡ copied_of copies a ++ copied_of copies b
copied_more true a b = refl
copied_more false a b = refl

-- ---- pieces

-- what was read so far went on
pub record Flows (number : ℕ) (copies : Bool) (len : ℕ) (left left' got got' : Option (List ℕ)) (files files' : Option (List SpoolFile)) : Type 0 where
  pub input : List ℕ
  pub read : LeftAfter left input left'
  pub counted : len ≡ length input
  pub moved : Moved number copies input got got' files files'

pub nothing_flows : (number : ℕ) (copies : Bool) (left got : Option (List ℕ)) (files : Option (List SpoolFile)) → Flows number copies 0 left left got got files files
nothing_flows number copies left got files = record {
  input = [];
  read = left_all left;
  counted = refl;
  moved = record { copy = nothing copies; add = added_none number files };
}
  where
    nothing : (b : Bool) → GotMore got (copied_of b []) got
    nothing true = got_nothing got
    nothing false = got_nothing got

module _ (number : ℕ) (copies : Bool) where
  pub moved_more : (a b : List ℕ) (got got' got'' : Option (List ℕ)) (files files' files'' : Option (List SpoolFile))
      → Moved number copies a got got' files files' → Moved number copies b got' got'' files' files'' → Moved number copies (a ++ b) got got'' files files''
  moved_more a b got got' got'' files files' files'' first second = record {
    copy = subst (λ (bytes : List ℕ). GotMore got bytes got'') (sym (copied_more copies a b)) (got_more got (copied_of copies a) got' (copied_of copies b) got'' first.copy second.copy);
    add = added_more number a b files files' files'' first.add second.add;
  }

  pub moved_then_front : (a b : List ℕ) (got got' got'' : Option (List ℕ)) (files files' files'' : Option (List SpoolFile))
      → Moved number copies a got got' files files' → MovedFront number copies b got' got'' files' files'' → MovedFront number copies (a ++ b) got got'' files files''
  moved_then_front a b got got' got'' files files' files'' first second = record {
    copied = copied_of copies a ++ second.copied;
    copy = got_more got (copied_of copies a) got' second.copied got'' first.copy second.copy;
    front = subst (λ (bytes : List ℕ). IsPrefixOf (copied_of copies a ++ second.copied) bytes) (sym (copied_more copies a b)) (front_behind (copied_of copies a) second.copied (copied_of copies b) second.front);
    added = a ++ second.added;
    add = added_more number a second.added files files' files'' first.add second.add;
    begins = front_behind a second.added b second.begins;
  }

  -- bytes more were read, and none of them went on
  pub moved_so_far : (a b : List ℕ) (got got' : Option (List ℕ)) (files files' : Option (List SpoolFile)) → Moved number copies a got got' files files' → MovedFront number copies (a ++ b) got got' files files'
  moved_so_far a b got got' files files' first = record {
    copied = copied_of copies a;
    copy = first.copy;
    front = subst (λ (bytes : List ℕ). IsPrefixOf (copied_of copies a) bytes) (sym (copied_more copies a b)) (front_before (copied_of copies a) (copied_of copies a) (copied_of copies b) (front_of_all (copied_of copies a)));
    added = a;
    add = first.add;
    begins = front_before a a b (front_of_all a);
  }

  -- a piece of which a front was written, and nothing added
  pub write_failed : (piece : List ℕ) (got got' : Option (List ℕ)) (files : Option (List SpoolFile)) → WritesFront got (copied_of copies piece) got' → MovedFront number copies piece got got' files files
  write_failed piece got got' files wrote = record {
    copied = wrote.written;
    copy = wrote.grew;
    front = wrote.front;
    added = [];
    add = added_none number files;
    begins = no_front piece;
  }

  -- a piece that was written, and of which a front was added
  pub add_failed : (piece : List ℕ) (got got' : Option (List ℕ)) (files files' : Option (List SpoolFile)) → GotMore got (copied_of copies piece) got' → AppendsFront files number piece files' → MovedFront number copies piece got got' files files'
  add_failed piece got got' files files' wrote added = record {
    copied = copied_of copies piece;
    copy = wrote;
    front = front_of_all (copied_of copies piece);
    added = added.written;
    add = added.grew;
    begins = added.front;
  }

  -- ---- what was read, and what went on of it

  module _ (left left' left'' got got' got'' : Option (List ℕ)) (files files' files'' : Option (List SpoolFile)) where
    -- one piece more
    pub flows_on : (len n : ℕ) (piece : List ℕ) → length piece ≡ n → Flows number copies len left left' got got' files files' → LeftAfter left' piece left'' → Moved number copies piece got' got'' files' files''
        → Flows number copies (len + n) left left'' got got'' files files''
    flows_on len n piece size flows read moved = record {
      input = flows.input ++ piece;
      read = left_after left flows.input left' piece left'' flows.read read;
      counted = omega (arith, length-append flows.input piece, flows.counted, size);
      moved = moved_more flows.input piece got got' got'' files files' files'' flows.moved moved;
    }

module _ (number : ℕ) (copies : Bool) (len : ℕ) (piece : List ℕ) (was mid now : Ends) where
  -- bytes more were read than may be
  pub pumped_large : Flows number copies len was.left mid.left was.got mid.got was.files mid.files → LeftAfter mid.left piece now.left → LARGEST_INPUT < len + length piece → now.got ≡ mid.got → now.files ≡ mid.files
      → PumpedFront number copies InputTooLarge was now
  pumped_large flows read large got files = record {
    input = flows.input ++ piece;
    read = left_after was.left flows.input mid.left piece now.left flows.read read;
    large = (λ e. omega (arith, length-append flows.input piece, flows.counted, large), λ e. refl);
    moved =
        let so_far : MovedFront number copies (flows.input ++ piece) was.got mid.got was.files mid.files = moved_so_far number copies flows.input piece was.got mid.got was.files mid.files flows.moved in
        let after : MovedFront number copies (flows.input ++ piece) was.got now.got was.files mid.files = subst (λ (g : Option (List ℕ)). MovedFront number copies (flows.input ++ piece) was.got g was.files mid.files) (sym got) so_far in
        subst (λ (f : Option (List SpoolFile)). MovedFront number copies (flows.input ++ piece) was.got now.got was.files f) (sym files) after;
    count = tt;
    cut = tt;
  }

  -- a piece did not go on
  pub pumped_cut : (status : Status) → Flows number copies len was.left mid.left was.got mid.got was.files mid.files → LeftAfter mid.left piece now.left → len + length piece ≤ LARGEST_INPUT
      → MovedFront number copies piece mid.got now.got mid.files now.files → AreLater was mid → HasPassed {A = Unit {0}} (Err status) mid.write_faults now.write_faults mid.spool_faults now.spool_faults
      → PumpedFront number copies status was now
  pumped_cut SinkFault flows read few moved later cause = record {
    input = flows.input ++ piece;
    read = left_after was.left flows.input mid.left piece now.left flows.read read;
    large = (λ e. absurd (cc), λ h. absurd (omega (arith, length-append flows.input piece, flows.counted, few, h)));
    moved = moved_then_front number copies flows.input piece was.got mid.got now.got was.files mid.files now.files flows.moved moved;
    count = omega (arith, later.write, cause);
    cut = tt;
  }
  pumped_cut SpoolFault flows read few moved later cause = record {
    input = flows.input ++ piece;
    read = left_after was.left flows.input mid.left piece now.left flows.read read;
    large = (λ e. absurd (cc), λ h. absurd (omega (arith, length-append flows.input piece, flows.counted, few, h)));
    moved = moved_then_front number copies flows.input piece was.got mid.got now.got was.files mid.files now.files flows.moved moved;
    count = omega (arith, later.spool, cause);
    cut = tt;
  }
  pumped_cut Done flows read few moved later cause = absurd cause
  pumped_cut Usage flows read few moved later cause = absurd cause
  pumped_cut BadPath flows read few moved later cause = absurd cause
  pumped_cut SourceFault flows read few moved later cause = absurd cause
  pumped_cut NumbersTaken flows read few moved later cause = absurd cause
  pumped_cut InputTooLarge flows read few moved later cause = absurd cause
  pumped_cut OutOfMemory flows read few moved later cause = absurd cause
