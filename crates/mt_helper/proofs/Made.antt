-- Records that are made one by one.
use Rattle.std.proofs.Common.{◌≡◌, ◌≢◌, ℕ, ◌+◌, ◌-◌, ◌<◌, ◌≤◌, List, [], ◌∷◌, ◌++◌, length, map, take, drop, get_or, Option, Some, None, refl, ap, sym, subst, ◌∙◌, arith, inl, inr, add-one, drop-cons}
use Rattle.std.specs.Prelude.{◌⊎◌, IfSome}
use Rattle.std.proofs.lemmas.List.{length-append, map-append, take_more, take-append-drop, take_all}
use Rattle.mt_base.specs.Counts.{NeverFell, Rose}
use Rattle.mt_spawn.specs.Spools.{SpoolFile}
use Rattle.mt_records.specs.Windows.{end_bytes}
use Rattle.mt_helper.specs.declared.status.Status.{Status}
use Rattle.mt_helper.specs.declared.status.Status.TheVariants.{Done, Usage, BadPath, SourceFault, SinkFault, SpoolFault, NumbersTaken, InputTooLarge, OutOfMemory}
use Rattle.mt_helper.specs.Ends.{IsRunEnd}
use Rattle.mt_helper.specs.Helping.{AddedBy, IsMakingEnd, Made}
use Rattle.mt_helper.specs.Spooling.{Added, AddedFront, AreTaken, Goes, Puts, PutsFront, PutsWhole, with_record}
use Rattle.mt_helper.specs.Streaming.{put_by}

-- ---- lists of files

added_then : (xs ys : List (List ℕ)) (fs gs hs : List SpoolFile) → Added xs fs gs → Added ys gs hs → Added (xs ++ ys) fs hs
added_then [] ys fs gs hs first second = subst (λ (l : List SpoolFile). Added ys l hs) first second
added_then (x ∷ xs) ys fs gs hs first second = (first.0, first.1, added_then xs ys (with_record first.0 x fs) gs hs first.2 second)

added_then_front : (xs ys : List (List ℕ)) (fs gs hs : List SpoolFile) → Added xs fs gs → AddedFront ys gs hs → AddedFront (xs ++ ys) fs hs
added_then_front [] ys fs gs hs first second = subst (λ (l : List SpoolFile). AddedFront ys l hs) first second
added_then_front (x ∷ xs) ys fs gs hs first second = inr (inr (first.0, first.1, added_then_front xs ys (with_record first.0 x fs) gs hs first.2 second))

-- a front of one record is one of that and others
front_of_more : (x : List ℕ) (xs : List (List ℕ)) (fs gs : List SpoolFile) → AddedFront (x ∷ []) fs gs → AddedFront (x ∷ xs) fs gs
front_of_more x xs fs gs (inl same) = inl same
front_of_more x xs fs gs (inr (inl begun)) = inr (inl begun)
front_of_more x xs fs gs (inr (inr whole)) = absurd whole.2

-- ---- by status

pub by_front : (status : Status) (xs : List (List ℕ)) (fs gs : List SpoolFile) → IsMakingEnd status → status ≢ Done → AddedFront xs fs gs → AddedBy status xs fs gs
by_front Done xs fs gs ends not_all front = absurd (not_all refl)
by_front SpoolFault xs fs gs ends not_all front = front
by_front NumbersTaken xs fs gs ends not_all front = front
by_front OutOfMemory xs fs gs ends not_all front = front
by_front Usage xs fs gs ends not_all front = absurd ends
by_front BadPath xs fs gs ends not_all front = absurd ends
by_front SourceFault xs fs gs ends not_all front = absurd ends
by_front SinkFault xs fs gs ends not_all front = absurd ends
by_front InputTooLarge xs fs gs ends not_all front = absurd ends

front_by : (status : Status) (xs : List (List ℕ)) (fs gs : List SpoolFile) → IsMakingEnd status → status ≢ Done → AddedBy status xs fs gs → AddedFront xs fs gs
front_by Done xs fs gs ends not_all added = absurd (not_all refl)
front_by SpoolFault xs fs gs ends not_all added = added
front_by NumbersTaken xs fs gs ends not_all added = added
front_by OutOfMemory xs fs gs ends not_all added = added
front_by Usage xs fs gs ends not_all added = absurd ends
front_by BadPath xs fs gs ends not_all added = absurd ends
front_by SourceFault xs fs gs ends not_all added = absurd ends
front_by SinkFault xs fs gs ends not_all added = absurd ends
front_by InputTooLarge xs fs gs ends not_all added = absurd ends

-- ---- what goes on

goes_then : (P Q R : List SpoolFile → List SpoolFile → Type 0) → ((fs gs hs : List SpoolFile) → P fs gs → Q gs hs → R fs hs) → (a b c : Option (List SpoolFile)) → Goes a P b → Goes b Q c → Goes a R c
goes_then P Q R join None b c first second = subst (λ (o : Option (List SpoolFile)). Goes o Q c) first second
goes_then P Q R join (Some fs) b c first second =
    let next : Goes (Some first.0) Q c = subst (λ (o : Option (List SpoolFile)). Goes o Q c) first.1 second in
    (next.0, next.1, join fs first.0 next.0 first.2 next.2)

pub goes_same : (P : List SpoolFile → List SpoolFile → Type 0) (a b : Option (List SpoolFile)) → b ≡ a → ((fs : List SpoolFile) → P fs fs) → Goes a P b
goes_same P None b same holds = same
goes_same P (Some fs) b same holds = (fs, same, holds fs)

-- ---- one record

whole_goes : (x : List ℕ) (a b : Option (List SpoolFile)) → PutsWhole a x b → Goes a (Added (x ∷ [])) b
whole_goes x None b put = put.put
whole_goes x (Some fs) b put = (with_record put.number x fs, put.put, (put.number, put.free, refl))

front_goes : (x : List ℕ) (a b : Option (List SpoolFile)) → PutsFront a x b → Goes a (AddedFront (x ∷ [])) b
front_goes x None b put = put.put
front_goes x (Some fs) b put =
    (with_record put.number put.front fs, put.put, inr (inl record { number = put.number; front = put.front; begins = put.begins; short = put.short; free = put.free; put = refl }))

fault_goes : (x : List ℕ) (a b : Option (List SpoolFile)) → (b ≡ a) ⊎ PutsFront a x b → Goes a (AddedFront (x ∷ [])) b
fault_goes x a b (inl same) = goes_same (AddedFront (x ∷ [])) a b same (λ fs. inl refl)
fault_goes x a b (inr put) = front_goes x a b put

-- files that were made by what ended so
pub put_goes : (status : Status) (x : List ℕ) (a b : Option (List SpoolFile)) → IsRunEnd status → Puts a x (put_by status) b → Goes a (AddedBy status (x ∷ [])) b
put_goes Done x a b run put = whole_goes x a b put
put_goes NumbersTaken x a b run put = goes_same (AddedFront (x ∷ [])) a b put.1 (λ fs. inl refl)
put_goes SourceFault x a b run put = fault_goes x a b put
put_goes SinkFault x a b run put = fault_goes x a b put
put_goes SpoolFault x a b run put = fault_goes x a b put
put_goes InputTooLarge x a b run put = fault_goes x a b put
put_goes OutOfMemory x a b run put = fault_goes x a b put
put_goes Usage x a b run put = absurd run
put_goes BadPath x a b run put = absurd run

-- all numbers are taken, in what is there now
pub put_taken : (status : Status) (x : List ℕ) (a b : Option (List SpoolFile)) → Puts a x (put_by status) b → status ≡ NumbersTaken → IfSome b AreTaken
put_taken NumbersTaken x a b put e = subst (λ (o : Option (List SpoolFile)). IfSome o AreTaken) (sym put.1) put.0
put_taken Done x a b put e = absurd (cc)
put_taken SourceFault x a b put e = absurd (cc)
put_taken SinkFault x a b put e = absurd (cc)
put_taken SpoolFault x a b put e = absurd (cc)
put_taken InputTooLarge x a b put e = absurd (cc)
put_taken OutOfMemory x a b put e = absurd (cc)
put_taken Usage x a b put e = absurd (cc)
put_taken BadPath x a b put e = absurd (cc)

pub making-runs : (status : Status) → IsMakingEnd status → IsRunEnd status
making-runs Done ends = tt
making-runs SpoolFault ends = tt
making-runs NumbersTaken ends = tt
making-runs OutOfMemory ends = tt
making-runs Usage ends = ends
making-runs BadPath ends = ends
making-runs SourceFault ends = tt
making-runs SinkFault ends = tt
making-runs InputTooLarge ends = tt

pub made_one : (status : Status) (x : List ℕ) (a b : Option (List SpoolFile)) (f g : ℕ) → Puts a x (put_by status) b → IsMakingEnd status → NeverFell f g → (status ≡ SpoolFault → Rose f g) → Made (x ∷ []) status a f b g
made_one status x a b f g put ends later fault = record {
  added = put_goes status x a b (making-runs status ends) put;
  taken = put_taken status x a b put;
  later = later;
  fault = fault;
  ends = ends;
}

-- no memory for a record
pub made_no_memory : (xs : List (List ℕ)) (a : Option (List SpoolFile)) (f : ℕ) → 0 < length xs → Made xs OutOfMemory a f a f
made_no_memory [] a f some = absurd (omega (arith, some))
made_no_memory (x ∷ xs) a f some = record {
  added = goes_same (AddedFront (x ∷ xs)) a a refl (λ fs. inl refl);
  taken = λ e. absurd (cc);
  later = omega arith;
  fault = λ e. absurd (cc);
  ends = tt;
}

-- ---- one after another

pub made_none : (a : Option (List SpoolFile)) (f : ℕ) → Made [] Done a f a f
made_none a f = record { added = goes_same (Added []) a a refl (λ fs. refl); taken = λ e. absurd (cc); later = omega arith; fault = λ e. absurd (cc); ends = tt }

module _ (xs : List (List ℕ)) (a b c : Option (List SpoolFile)) (f g h : ℕ) (done : Made xs Done a f b g) where
  pub made_more : (x : List ℕ) → Made (x ∷ []) Done b g c h → Made (xs ++ x ∷ []) Done a f c h
  made_more x next = record {
    added = goes_then (Added xs) (Added (x ∷ [])) (Added (xs ++ x ∷ [])) (added_then xs (x ∷ [])) a b c done.added next.added;
    taken = λ e. absurd (cc);
    later = omega (arith, done.later, next.later);
    fault = λ e. absurd (cc);
    ends = tt;
  }

  pub made_stops : (status : Status) (x : List ℕ) (ys : List (List ℕ)) → Made (x ∷ []) status b g c h → status ≢ Done → Made (xs ++ x ∷ ys) status a f c h
  made_stops status x ys next not_all = record {
    added =
        goes_then (Added xs) (AddedBy status (x ∷ [])) (AddedBy status (xs ++ x ∷ ys))
        (λ fs gs hs first second. by_front status (xs ++ x ∷ ys) fs hs next.ends not_all (added_then_front xs (x ∷ ys) fs gs hs first (front_of_more x ys gs hs (front_by status (x ∷ []) gs hs next.ends not_all second))))
        a b c done.added next.added;
    taken = next.taken;
    later = omega (arith, done.later, next.later);
    fault = λ e. omega (arith, done.later, next.fault e);
    ends = next.ends;
  }

-- ---- the records of a list

module _ {X : Type 0} (bytes : X → List ℕ) (xs : List X) (a b c : Option (List SpoolFile)) (f g h : ℕ) where
  pub list_more : (i : ℕ) (x : X) → i < length xs → x ≡ get_or xs i x → Made (map bytes (take i xs)) Done a f b g → Made (bytes x ∷ []) Done b g c h → Made (map bytes (take (i + 1) xs)) Done a f c h
  list_more i x within is done next =
      let more : map bytes (take (i + 1) xs) ≡ map bytes (take i xs) ++ bytes x ∷ [] =
      ap (map bytes) (take_more xs i x within ∙ ap (λ (y : X). take i xs ++ y ∷ []) (sym is)) ∙ map-append bytes (take i xs) (x ∷ []) in
      subst (λ (l : List (List ℕ)). Made l Done a f c h) (sym more) (made_more (map bytes (take i xs)) a b c f g h done (bytes x) next)

  pub list_stops : (status : Status) (i : ℕ) (x : X) → i < length xs → x ≡ get_or xs i x → Made (map bytes (take i xs)) Done a f b g → Made (bytes x ∷ []) status b g c h → status ≢ Done → Made (map bytes xs) status a f c h
  list_stops status i x within is done next not_all =
      let rest : drop i xs ≡ x ∷ drop (i + 1) xs = drop-cons xs i x within ∙ (λ k. sym is k ∷ drop (sym (add-one i) k) xs) in
      let whole : map bytes xs ≡ map bytes (take i xs) ++ bytes x ∷ map bytes (drop (i + 1) xs) =
      ap (map bytes) (sym (take-append-drop i xs)) ∙ map-append bytes (take i xs) (drop i xs) ∙ ap (λ (l : List X). map bytes (take i xs) ++ map bytes l) rest in
      subst (λ (l : List (List ℕ)). Made l status a f c h) (sym whole) (made_stops (map bytes (take i xs)) a b c f g h done status (bytes x) (map bytes (drop (i + 1) xs)) next not_all)

pub list_all : {X : Type 0} (bytes : X → List ℕ) (xs : List X) (i : ℕ) (a b : Option (List SpoolFile)) (f g : ℕ) → length xs ≤ i → Made (map bytes (take i xs)) Done a f b g → Made (map bytes xs) Done a f b g
list_all bytes xs i a b f g past done = subst (λ (l : List (List ℕ)). Made l Done a f b g) (ap (map bytes) (take_all i xs past)) done

pub map_twice : {X Y Z : Type 0} (f : Y → Z) (g : X → Y) (xs : List X) → map f (map g xs) ≡ map (λ x. f (g x)) xs
map_twice f g [] = refl
map_twice f g (x ∷ xs) = ap (λ l. f (g x) ∷ l) (map_twice f g xs)

-- the bytes of a record, put one behind another
pub part_is : (head body first second third end : List ℕ) (k m : ℕ) → first ≡ head → second ≡ first ++ body → third ≡ second ++ end → end ≡ end_bytes (k - m) → k ≡ length second → m ≡ length first
    → third ≡ head ++ body ++ end_bytes (length body)
part_is head body first second third end k m is next last ends far near =
    let count : k - m ≡ length body = omega (arith, far, near, ap length next, length-append first body) in
    last ∙ (λ i. (next ∙ ap (λ (l : List ℕ). l ++ body) is) i ++ (ends ∙ ap end_bytes count) i)
