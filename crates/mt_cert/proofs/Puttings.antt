-- Lines that are put, one behind another.
use Rattle.std.proofs.Common.{◌≡◌, ℕ, Bool, true, false, ◌&&◌, List, [], ◌∷◌, ◌++◌, Option, refl, sym, ap, subst, ◌∙◌, arith, append_assoc, append-nil, length-append}
use Rattle.std.specs.Prelude.{Result, Ok, Err}
use Rattle.std.specs.List.{list_all}
use Rattle.std.proofs.lemmas.Grind.{flat_map-append}
use Rattle.std.proofs.lemmas.List.Folds.{list_all-append}
use Rattle.mt_base.specs.Counts.{NeverFell, Rose}
use Rattle.mt_edge.specs.Stream.{GotMore, WritesFront}
use Rattle.mt_edge.proofs.Streams.{got_more, got_nothing}
use Rattle.mt_certline.specs.declared.line.Line.{Line}
use Rattle.mt_cert.specs.Putting.{HasLine, HasSent, Out, Puts, PutsTo, is_short, line_bytes, lines_text, out_at}
use Rattle.mt_cert.specs.declared.page.Halt.{Halt}
use Rattle.mt_cert.specs.declared.page.Halt.TheVariants as halt
use Rattle.mt_cert.specs.declared.page.Page.{Page}

-- ---- a text and a front of the next

written_on : (got : Option (List ℕ)) (text : List ℕ) (mid : Option (List ℕ)) (more : List ℕ) (got' : Option (List ℕ)) → GotMore got text mid → WritesFront mid more got' → WritesFront got (text ++ more) got'
written_on got text mid more got' first front = record {
  written = text ++ front.written;
  front = (front.front.0, append_assoc text front.written front.front.0 ∙ ap (λ l. text ++ l) front.front.1);
  short = omega (arith, length-append text front.written, length-append text more, front.short);
  grew = got_more got text mid front.written got' first front.grew;
}

written_within : (got : Option (List ℕ)) (text more : List ℕ) (got' : Option (List ℕ)) → WritesFront got text got' → WritesFront got (text ++ more) got'
written_within got text more got' front = record {
  written = front.written;
  front = (front.front.0 ++ more, sym (append_assoc front.written front.front.0 more) ∙ ap (λ l. l ++ more) front.front.1);
  short = omega (arith, length-append text more, front.short);
  grew = front.grew;
}

sent_on : (got : Option (List ℕ)) (text : List ℕ) (mid : Option (List ℕ)) (more : List ℕ) (got' : Option (List ℕ)) → GotMore got text mid → HasSent mid more got' → HasSent got (text ++ more) got'
sent_on got text mid more got' first front = record {
  sent = text ++ front.sent;
  front = (front.front.0, append_assoc text front.sent front.front.0 ∙ ap (λ l. text ++ l) front.front.1);
  grew = got_more got text mid front.sent got' first front.grew;
}

sent_within : (got : Option (List ℕ)) (text more : List ℕ) (got' : Option (List ℕ)) → HasSent got text got' → HasSent got (text ++ more) got'
sent_within got text more got' front = record {
  sent = front.sent;
  front = (front.front.0 ++ more, sym (append_assoc front.sent front.front.0 more) ∙ ap (λ l. l ++ more) front.front.1);
  grew = front.grew;
}

pub sent_nothing : (got : Option (List ℕ)) (text : List ℕ) → HasSent got text got
sent_nothing got text = record { sent = []; front = (text, refl); grew = got_nothing got }

-- ---- counts

never_rose : (a b c : ℕ) → NeverFell a b → Rose b c → Rose a c
never_rose a b c p q = omega (arith, p, q)

never_fell : (a b c : ℕ) → NeverFell a b → NeverFell b c → NeverFell a c
never_fell a b c p q = omega (arith, p, q)

-- ---- lines

and_joined : (p q r : Bool) → (q && (p && r)) ≡ ((p && q) && r)
and_joined true true r = refl
and_joined true false r = refl
and_joined false true r = refl
and_joined false false r = refl

module _ (login : List ℕ) where
  text_joined : (xs : List ℕ) (ls ms : List Line) → xs ++ lines_text login (ls ++ ms) ≡ (xs ++ lines_text login ls) ++ lines_text login ms
  text_joined xs ls ms = ap (λ t. xs ++ t) (flat_map-append (line_bytes login) ls ms) ∙ sym (append_assoc xs (lines_text login ls) (lines_text login ms))

  -- what stood in a page and lines go on
  text_on : (ls ms : List Line) (x y : Out) (p : Puts login ls x y) → x.page.text.items ++ lines_text login (ls ++ ms) ≡ p.sent ++ (y.page.text.items ++ lines_text login ms)
  text_on ls ms x y p =
      text_joined x.page.text.items ls ms ∙ (ap (λ t. t ++ lines_text login ms) p.whole ∙ append_assoc p.sent y.page.text.items (lines_text login ms))

  pub puts_nothing : (x : Out) → Puts login [] x x
  puts_nothing x = record {
    sent = [];
    whole = append-nil x.page.text.items;
    grew = got_nothing x.got;
    short = refl;
    lines = omega arith;
    faults = omega arith;
  }

  pub then_puts : (ls ms : List Line) (r : Result (Unit {0}) Halt) (x y z : Out) → Puts login ls x y → PutsTo login ms r y z → PutsTo login (ls ++ ms) r x z
  then_puts ls ms (Ok u) x y z p q = record {
    sent = p.sent ++ q.sent;
    whole = text_on ls ms x y p ∙ (ap (λ t. p.sent ++ t) q.whole ∙ sym (append_assoc p.sent q.sent z.page.text.items));
    grew = got_more x.got p.sent y.got q.sent z.got p.grew q.grew;
    short = q.short ∙ (ap (λ b. list_all (is_short login) ms && b) p.short ∙ (and_joined (list_all (is_short login) ls) (list_all (is_short login) ms) x.page.short ∙ ap (λ b. b && x.page.short) (sym (list_all-append (is_short login) ls ms))));
    lines = omega (arith, q.lines, p.lines, length-append ls ms);
    faults = never_fell x.faults y.faults z.faults p.faults q.faults;
  }
  then_puts ls ms (Err halt.SinkFault) x y z p q =
      (subst (λ t. WritesFront x.got t z.got) (sym (text_on ls ms x y p)) (written_on x.got p.sent y.got (y.page.text.items ++ lines_text login ms) z.got p.grew q.0), never_rose x.faults y.faults z.faults p.faults q.1)
  then_puts ls ms (Err halt.Memory) x y z p q =
      (subst (λ t. HasSent x.got t z.got) (sym (text_on ls ms x y p)) (sent_on x.got p.sent y.got (y.page.text.items ++ lines_text login ms) z.got p.grew q.0), never_fell x.faults y.faults z.faults p.faults q.1)

  pub stops_within : (ls ms : List Line) (e : Halt) (x z : Out) → PutsTo login ls (Err e) x z → PutsTo login (ls ++ ms) (Err e) x z
  stops_within ls ms halt.SinkFault x z q =
      (subst (λ t. WritesFront x.got t z.got) (sym (text_joined x.page.text.items ls ms)) (written_within x.got (x.page.text.items ++ lines_text login ls) (lines_text login ms) z.got q.0), q.1)
  stops_within ls ms halt.Memory x z q =
      (subst (λ t. HasSent x.got t z.got) (sym (text_joined x.page.text.items ls ms)) (sent_within x.got (x.page.text.items ++ lines_text login ls) (lines_text login ms) z.got q.0), q.1)

  -- however the rest of some lines is put, so the whole is
  abbrev pub GoesOn : List Line → List Line → Out → Out → Type 0
  GoesOn whole rest x y = (r : Result (Unit {0}) Halt) (z : Out) → PutsTo login rest r y z → PutsTo login whole r x z

  -- some lines were put
  pub goes_on : (whole rest ls more : List Line) (x y z : Out) → rest ≡ ls ++ more → GoesOn whole rest x y → Puts login ls y z → GoesOn whole more x z
  goes_on whole rest ls more x y z is on put r w q = on r w (subst (λ t. PutsTo login t r y w) (sym is) (then_puts ls more r y z w put q))

  -- they were not
  pub goes_off : (whole rest ls more : List Line) (e : Halt) (x y z : Out) → rest ≡ ls ++ more → GoesOn whole rest x y → PutsTo login ls (Err e) y z → PutsTo login whole (Err e) x z
  goes_off whole rest ls more e x y z is on put = on (Err e) z (subst (λ t. PutsTo login t (Err e) y z) (sym is) (stops_within ls more e y z put))

  -- none is left
  pub goes_end : (whole rest : List Line) (x y : Out) → rest ≡ [] → GoesOn whole rest x y → Puts login whole x y
  goes_end whole rest x y is on = on (Ok tt) y (subst (λ t. Puts login t y y) (sym is) (puts_nothing y))

  -- ---- one line

  added : (l : Line) (old new : Page) (got : Option (List ℕ)) (faults : ℕ) → HasLine login l old new → Puts login (l ∷ []) (out_at old got faults) (out_at new got faults)
  added l old new got faults has = record {
    sent = [];
    whole = ap (λ t. old.text.items ++ t) (append-nil (line_bytes login l)) ∙ sym has.text;
    grew = got_nothing got;
    short = has.short ∙ ap (λ b. b && old.short) (one (is_short login l));
    lines = has.lines;
    faults = omega arith;
  }
    where
      one : (b : Bool) → b ≡ (b && true)
      one true = refl
      one false = refl

  -- a line went into a page
  pub put_one : (l : Line) (old new : Page) (got : Option (List ℕ)) (faults : ℕ) → HasLine login l old new → PutsTo login (l ∷ []) (Ok tt) (out_at old got faults) (out_at new got faults)
  put_one l old new got faults has = added l old new got faults has

  -- and the page to a sink
  pub put_sent : (l : Line) (old new : Page) (got : Option (List ℕ)) (faults : ℕ) (r : Result (Unit {0}) Halt) (z : Out) → HasLine login l old new
      → PutsTo login [] r (out_at new got faults) z → PutsTo login (l ∷ []) r (out_at old got faults) z
  put_sent l old new got faults r z has q = then_puts (l ∷ []) [] r (out_at old got faults) (out_at new got faults) z (added l old new got faults has) q

  -- nothing was put behind them
  pub then_none : (ls : List Line) (r : Result (Unit {0}) Halt) (x y z : Out) → Puts login ls x y → PutsTo login [] r y z → PutsTo login ls r x z
  then_none ls r x y z p q = subst (λ t. PutsTo login t r x z) (append-nil ls) (then_puts ls [] r x y z p q)
