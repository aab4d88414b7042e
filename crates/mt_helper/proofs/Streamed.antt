-- A record that is made of what is read.
use Rattle.std.proofs.Common.{◌≡◌, ◌≢◌, ℕ, ◌≤◌, Bool, List, [], ◌++◌, length, Option, option_map, refl, ap, sym, subst, ◌∙◌, arith, length-append, inl, inr}
use Rattle.std.specs.Prelude.{IfSome, Result, Ok, Err}
use Rattle.mt_base.specs.Counts.{NeverFell, Rose}
use Rattle.mt_base.specs.Lists.{IsPrefixOf}
use Rattle.mt_edge.specs.Stream.{GotMore, LeftAfter}
use Rattle.mt_edge.proofs.Streams.{got_nothing, left_all}
use Rattle.mt_spawn.specs.Spools.{AppendsFront, SpoolFile, with_bytes}
use Rattle.mt_records.specs.Windows.{end_bytes}
use Rattle.mt_helper.specs.declared.spooling.Halt.{Halt}
use Rattle.mt_helper.specs.declared.spooling.Halt.TheVariants.{Taken, Fault}
use Rattle.mt_helper.specs.declared.status.Status.{Status}
use Rattle.mt_helper.specs.declared.status.Status.TheVariants.{Done, Usage, BadPath, SourceFault, SinkFault, SpoolFault, NumbersTaken, InputTooLarge, OutOfMemory}
use Rattle.mt_helper.specs.Ends.{AreLater, Ends, HasCount, IsRunEnd, ends, halt_status}
use Rattle.mt_helper.specs.Spooling.{Halts, IsLowestFree, Puts, PutsAt, PutsFront, with_record}
use Rattle.mt_helper.specs.Streaming.{IsCut, PumpedAll, PumpedFront, Streamed, copied_of, put_by, stream_bytes}
use Rattle.mt_helper.proofs.Spools.{free_of, grown}
use Rattle.mt_helper.proofs.Streams.{front_before, front_behind, front_of_all, no_front}

-- a count that rose later rose
pub later_count : (status : Status) (was mid now : Ends) → AreLater was mid → HasCount status mid now → HasCount status was now
later_count SourceFault was mid now later rose = omega (arith, later.read, rose)
later_count SinkFault was mid now later rose = omega (arith, later.write, rose)
later_count SpoolFault was mid now later rose = omega (arith, later.spool, rose)
later_count Done was mid now later rose = tt
later_count Usage was mid now later rose = tt
later_count BadPath was mid now later rose = tt
later_count NumbersTaken was mid now later rose = tt
later_count InputTooLarge was mid now later rose = tt
later_count OutOfMemory was mid now later rose = tt

pub never_fell : (n : ℕ) → NeverFell n n
never_fell n = omega arith

pub later_same : (was : Ends) → AreLater was was
later_same was = record { read = never_fell was.read_faults; write = never_fell was.write_faults; spool = never_fell was.spool_faults }

-- one after another
pub later_on : (was mid now : Ends) → AreLater was mid → AreLater mid now → AreLater was now
later_on was mid now first second = record {
  read = omega (arith, first.read, second.read);
  write = omega (arith, first.write, second.write);
  spool = omega (arith, first.spool, second.spool);
}

pub rose_later : (a b c d : ℕ) → NeverFell a b → NeverFell b c → Rose c d → Rose a d
rose_later a b c d first second third = omega arith

-- how a record stands that was cut
pub cut_put : (status : Status) (files files' : Option (List SpoolFile)) (bytes : List ℕ) → IsCut status → PutsFront files bytes files' → Puts files bytes (put_by status) files'
cut_put SourceFault files files' bytes cut put = inr put
cut_put SinkFault files files' bytes cut put = inr put
cut_put SpoolFault files files' bytes cut put = inr put
cut_put InputTooLarge files files' bytes cut put = inr put
cut_put Done files files' bytes cut put = absurd cut
cut_put Usage files files' bytes cut put = absurd cut
cut_put BadPath files files' bytes cut put = absurd cut
cut_put NumbersTaken files files' bytes cut put = absurd cut
cut_put OutOfMemory files files' bytes cut put = absurd cut

cut-runs : (status : Status) → IsCut status → IsRunEnd status
cut-runs SourceFault cut = tt
cut-runs SinkFault cut = tt
cut-runs SpoolFault cut = tt
cut-runs InputTooLarge cut = tt
cut-runs Done cut = tt
cut-runs Usage cut = cut
cut-runs BadPath cut = cut
cut-runs NumbersTaken cut = tt
cut-runs OutOfMemory cut = tt

not_taken : (status : Status) → IsCut status → status ≡ NumbersTaken → ⊥
not_taken status cut e = subst IsCut e cut

pub not_done : (status : Status) → IsCut status → status ≡ Done → ⊥
not_done status cut e = subst IsCut e cut

module _ (head : List ℕ) (copies : Bool) where
  -- nothing is read
  pub streamed_none : (status : Status) (left got : Option (List ℕ)) (files files' : Option (List SpoolFile)) (r w s r' w' s' : ℕ) → status ≢ Done → status ≢ InputTooLarge → IsRunEnd status
      → Puts files (stream_bytes head []) (put_by status) files' → HasCount status (ends left got files r w s) (ends left got files' r' w' s')
      → Streamed head copies status (ends left got files r w s) (ends left got files' r' w' s')
  streamed_none status left got files files' r w s r' w' s' not_all small runs put count = record {
    input = [];
    read = left_all left;
    ended = λ e. absurd (not_all e);
    large = (λ e. absurd (small e), λ h. absurd (omega (arith, h)));
    copied = [];
    copy = got_nothing got;
    front = no_front (copied_of copies []);
    whole = λ e. absurd (not_all e);
    put = put;
    early = λ e. refl;
    count = count;
    ends = runs;
  }

-- the head is not put, or not whole
pub halted : (halt : Halt) (head : List ℕ) (files files' : Option (List SpoolFile)) → PutsAt files head (Err halt) files' → Puts files (stream_bytes head []) (put_by (halt_status halt)) files'
halted Taken head files files' put = put
halted Fault head files files' (inl same) = inl same
halted Fault head files files' (inr p) = inr record {
  number = p.number;
  front = p.front;
  begins = front_before p.front (head ++ []) (end_bytes 0) (front_before p.front head [] p.begins);
  short = omega (arith, p.short, length-append (head ++ []) (end_bytes 0), length-append {A = ℕ} head []);
  free = p.free;
  put = p.put;
}

pub halted_count : (halt : Halt) (left got : Option (List ℕ)) (files files' : Option (List SpoolFile)) (r w s s' : ℕ) → Halts {A = ℕ} s (Err halt) s' → HasCount (halt_status halt) (ends left got files r w s) (ends left got files' r w s')
halted_count Taken left got files files' r w s s' halts = tt
halted_count Fault left got files files' r w s s' halts = halts

pub halt-runs : (halt : Halt) → IsRunEnd (halt_status halt)
halt-runs Taken = tt
halt-runs Fault = tt

pub halt-not_all : (halt : Halt) → halt_status halt ≢ Done
halt-not_all Taken e = absurd (cc)
halt-not_all Fault e = absurd (cc)

pub halt-small : (halt : Halt) → halt_status halt ≢ InputTooLarge
halt-small Taken e = absurd (cc)
halt-small Fault e = absurd (cc)

pub halt_later : {A : Type 0} (result : Result A Halt) (s s' : ℕ) → Halts s result s' → NeverFell s s'
halt_later (Ok n) s s' halts = halts
halt_later (Err Taken) s s' halts = halts
halt_later (Err Fault) s s' halts = omega (arith, halts)

module _ (head : List ℕ) (copies : Bool) (n : ℕ) (left got : Option (List ℕ)) (files files' : Option (List SpoolFile)) (r w s r' w' s' : ℕ) (free : IfSome files (λ fs. IsLowestFree fs n)) (begun : files' ≡ option_map (with_record n head) files)
    (later : AreLater (ends left got files r w s) (ends left got files' r' w' s')) where
  -- what was read is cut
  pub streamed_front : (status : Status) (now : Ends) → PumpedFront n copies status (ends left got files' r' w' s') now → Streamed head copies status (ends left got files r w s) now
  streamed_front status now front = record {
    input = front.input;
    read = front.read;
    ended = λ e. absurd (not_done status front.cut e);
    large = front.large;
    copied = front.moved.copied;
    copy = front.moved.copy;
    front = front.moved.front;
    whole = λ e. absurd (not_done status front.cut e);
    put = cut_put status files now.files (stream_bytes head front.input) front.cut record {
      number = n;
      front = head ++ front.moved.added;
      begins = front_before (head ++ front.moved.added) (head ++ front.input) (end_bytes (length front.input)) (front_behind head front.moved.added front.input front.moved.begins);
      short = omega (arith, length-append (head ++ front.input) (end_bytes (length front.input)), length-append head front.input, length-append head front.moved.added, not_longer front.moved.added front.input front.moved.begins, twelve);
      free = free;
      put = grown n head front.moved.added files files' now.files (free_of n files free) begun front.moved.add;
    };
    early = λ e. absurd (not_taken status front.cut e);
    count = later_count status (ends left got files r w s) (ends left got files' r' w' s') now later front.count;
    ends = cut-runs status front.cut;
  }
    where
      twelve : length (end_bytes (length front.input)) ≡ 12
      twelve = refl

      not_longer : (xs ys : List ℕ) → IsPrefixOf xs ys → length xs ≤ length ys
      not_longer xs ys begins = omega (arith, ap length begins.1, length-append xs begins.0)

  -- all is read, and the end is cut
  pub streamed_cut : (len : ℕ) (mid now : Ends) → PumpedAll n copies len (ends left got files' r' w' s') mid → now.left ≡ mid.left → now.got ≡ mid.got → AppendsFront mid.files n (end_bytes len) now.files
      → HasCount SpoolFault (ends left got files r w s) now → Streamed head copies SpoolFault (ends left got files r w s) now
  streamed_cut len mid now all same_left same_got cut rose = record {
    input = all.input;
    read = subst (λ (o : Option (List ℕ)). LeftAfter left all.input o) (sym same_left) all.read;
    ended = λ e. absurd (cc);
    large = (λ e. absurd (cc), λ h. absurd (omega (arith, h, all.small)));
    copied = copied_of copies all.input;
    copy = subst (λ (o : Option (List ℕ)). GotMore got (copied_of copies all.input) o) (sym same_got) all.moved.copy;
    front = front_of_all (copied_of copies all.input);
    whole = λ e. refl;
    put = inr record {
      number = n;
      front = head ++ all.input ++ cut.written;
      begins = front_behind (head ++ all.input) cut.written (end_bytes (length all.input)) (subst (λ (k : ℕ). IsPrefixOf cut.written (end_bytes k)) all.counted cut.front);
      short = omega (arith, length-append (head ++ all.input) (end_bytes (length all.input)), length-append (head ++ all.input) cut.written, cut.short, twelve len, twelve (length all.input));
      free = free;
      put = grown n (head ++ all.input) cut.written files mid.files now.files (free_of n files free) (grown n head all.input files files' mid.files (free_of n files free) begun all.moved.add) cut.grew;
    };
    early = λ e. absurd (cc);
    count = rose;
    ends = tt;
  }
    where
      twelve : (k : ℕ) → length (end_bytes k) ≡ 12
      twelve k = refl

  -- all is read, and the record stands
  pub streamed_whole : (len : ℕ) (mid now : Ends) → PumpedAll n copies len (ends left got files' r' w' s') mid → now.left ≡ mid.left → now.got ≡ mid.got → now.files ≡ option_map (with_bytes n (end_bytes len)) mid.files
      → Streamed head copies Done (ends left got files r w s) now
  streamed_whole len mid now all same_left same_got added = record {
    input = all.input;
    read = subst (λ (o : Option (List ℕ)). LeftAfter left all.input o) (sym same_left) all.read;
    ended = λ e. subst (λ (o : Option (List ℕ)). IfSome o (λ rest. rest ≡ [])) (sym same_left) all.ended;
    large = (λ e. absurd (cc), λ h. absurd (omega (arith, h, all.small)));
    copied = copied_of copies all.input;
    copy = subst (λ (o : Option (List ℕ)). GotMore got (copied_of copies all.input) o) (sym same_got) all.moved.copy;
    front = front_of_all (copied_of copies all.input);
    whole = λ e. refl;
    put = record {
      number = n;
      free = free;
      put = grown n (head ++ all.input) (end_bytes (length all.input)) files mid.files now.files (free_of n files free) (grown n head all.input files files' mid.files (free_of n files free) begun all.moved.add)
          (added ∙ ap (λ (k : ℕ). option_map (with_bytes n (end_bytes k)) mid.files) all.counted);
    };
    early = λ e. absurd (cc);
    count = tt;
    ends = tt;
  }
