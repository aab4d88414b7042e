-- Histories grow at the end, and payloads have one.
use Rattle.std.proofs.Common.{◌≡◌, ℕ, Bool, true, false, true≢false, ◌&&◌, inl, inr, List, [], ◌∷◌, ◌++◌, refl, sym, ap, ◌∙◌, subst, append_assoc, append-nil}
use Rattle.std.specs.List.{list_all}
use Rattle.mt_codec.specs.Pieces.{is_piece}
use Rattle.mt_codec.specs.Spelling.{Spells}
use Rattle.mt_codec.proofs.Weaker.{no_piece}
use Rattle.mt_codec.proofs.Whole.{spelled_alike}
use Rattle.mt_body.specs.Stored.{bytes_of}
use Rattle.mt_model.specs.CommandStep.{replay}
use Rattle.mt_model.specs.State.{State, first_state}
use Rattle.mt_types.specs.Values.{command_with}
use Rattle.mt_types.specs.declared.body.Body.{Body}
use Rattle.mt_types.specs.declared.command.Command.{Command}
use Rattle.mt_opening.specs.History.{Adds, Bytes, History, IsForeignAt, IsHistoryOf, Leads, Tells}

leads_more : (base : State Bytes) (before : List (List ℕ)) (h : History) (ps : List (List ℕ)) (k : History) (p : List ℕ) (added : History)
    → Leads base before h ps k → Adds (before ++ ps) (replay base k) p added → Leads base before h (ps ++ p ∷ []) (k ++ added)
leads_more base before h [] k p added is adds =
    (added, subst (λ x. Adds x (replay base h) p added) (append-nil before) (subst (λ (x : History). Adds (before ++ []) (replay base x) p added) is adds), ap (λ (x : History). x ++ added) is)
leads_more base before h (q ∷ ps) k p added leads adds =
    (leads.0, leads.1, leads_more base (before ++ q ∷ []) (h ++ leads.0) ps k p added leads.2 (subst (λ x. Adds x (replay base k) p added) (sym (append_assoc before (q ∷ []) ps)) adds))

pub history_more : (ps : List (List ℕ)) (base : State Bytes) (h added : History) (p : List ℕ) → IsHistoryOf ps base h → Adds ps (replay base h) p added → IsHistoryOf (ps ++ p ∷ []) base (h ++ added)
history_more ps base h added p is adds = record {
  front = is.front;
  rest = is.rest ++ p ∷ [];
  split = ap (λ (x : List (List ℕ)). x ++ p ∷ []) is.split ∙ append_assoc is.front is.rest (p ∷ []);
  begins = is.begins;
  leads = leads_more base is.front [] is.rest h p added is.leads (subst (λ x. Adds x (replay base h) p added) is.split adds);
}

both_true : (a b : Bool) → (a && b) ≡ true → (a ≡ true) × (b ≡ true)
both_true true b is = (refl, is)
both_true false b is = absurd (true≢false (sym is))

-- pieces add nothing
pub history_pieces : (ps records : List (List ℕ)) (base : State Bytes) (h : History) → IsHistoryOf ps base h → list_all is_piece records ≡ true → IsHistoryOf (ps ++ records) base h
history_pieces ps [] base h is all = subst (λ (x : List (List ℕ)). IsHistoryOf x base h) (sym (append-nil ps)) is
history_pieces ps (p ∷ records) base h is all =
    let both = both_true (is_piece p) (list_all is_piece records) all in
    let more = subst (λ (k : History). IsHistoryOf (ps ++ p ∷ []) base k) (append-nil h) (history_more ps base h [] p is (inl (both.0, refl))) in
    subst (λ (x : List (List ℕ)). IsHistoryOf x base h) (append_assoc ps (p ∷ []) records) (history_pieces (ps ++ p ∷ []) records base h more both.1)

-- pieces, and then a command
pub history_run : (ps records : List (List ℕ)) (base : State Bytes) (h : History) (p : List ℕ) (c : Command Body) → IsHistoryOf ps base h → list_all is_piece records ≡ true
    → Tells (ps ++ records) (replay base h) p c → IsHistoryOf (ps ++ (records ++ p ∷ [])) base (h ++ command_with (bytes_of (ps ++ records)) c ∷ [])
history_run ps records base h p c is all tells =
    subst (λ (x : List (List ℕ)). IsHistoryOf x base (h ++ command_with (bytes_of (ps ++ records)) c ∷ [])) (append_assoc ps records (p ∷ []))
    (history_more (ps ++ records) base h (command_with (bytes_of (ps ++ records)) c ∷ []) p (history_pieces ps records base h is all) (inr (c, tells, refl)))

apart : (p : List ℕ) (c : Command Body) → is_piece p ≡ true → Spells p c → ⊥
apart p c piece spells = true≢false (sym piece ∙ ap is_piece spells.bytes_are ∙ no_piece c)

pub same_command : (p : List ℕ) (c d : Command Body) → Spells p c → Spells p d → c ≡ d
same_command p c d x y = sym x.plain ∙ spelled_alike c d x.fits y.fits (sym x.bytes_are ∙ y.bytes_are) ∙ y.plain

pub adds_one : (before : List (List ℕ)) (s : State Bytes) (p : List ℕ) (a b : History) → Adds before s p a → Adds before s p b → a ≡ b
adds_one before s p a b (inl x) (inl y) = x.1 ∙ sym y.1
adds_one before s p a b (inl x) (inr y) = absurd (apart p y.0 x.0 y.1.spelled)
adds_one before s p a b (inr x) (inl y) = absurd (apart p x.0 y.0 x.1.spelled)
adds_one before s p a b (inr x) (inr y) = x.2 ∙ ap (λ (c : Command Body). command_with (bytes_of before) c ∷ []) (same_command p x.0 y.0 x.1.spelled y.1.spelled) ∙ sym y.2

leads_one : (base : State Bytes) (before : List (List ℕ)) (h : History) (ps : List (List ℕ)) (k l : History) → Leads base before h ps k → Leads base before h ps l → k ≡ l
leads_one base before h [] k l a b = a ∙ sym b
leads_one base before h (p ∷ ps) k l a b =
    let same = adds_one before (replay base h) p a.0 b.0 a.1 b.1 in
    leads_one base (before ++ p ∷ []) (h ++ a.0) ps k l a.2 (subst (λ (x : History). Leads base (before ++ p ∷ []) (h ++ x) ps l) (sym same) b.2)

-- what follows a front adds something to its history
leads_next : (base : State Bytes) (b : List (List ℕ)) (h : History) (before : List (List ℕ)) (p : List ℕ) (more : List (List ℕ)) (k l : History)
    → Leads base b h (before ++ p ∷ more) k → Leads base b h before l → (added : History) × Adds (b ++ before) (replay base l) p added
leads_next base b h [] p more k l a is =
    (a.0, subst (λ x. Adds x (replay base l) p a.0) (sym (append-nil b)) (subst (λ (x : History). Adds b (replay base x) p a.0) (sym is) a.1))
leads_next base b h (q ∷ before) p more k l a c =
    let same = adds_one b (replay base h) q a.0 c.0 a.1 c.1 in
    let rest = leads_next base (b ++ q ∷ []) (h ++ a.0) before p more k l a.2 (subst (λ (x : History). Leads base (b ++ q ∷ []) (h ++ x) before l) (sym same) c.2) in
    (rest.0, subst (λ x. Adds x (replay base l) p rest.0) (append_assoc b (q ∷ []) before) rest.1)

-- a history without a base
pub led : (ps : List (List ℕ)) (base : State Bytes) (h : History) → IsHistoryOf ps base h → Leads first_state [] [] ps h
led ps base h x =
    let rest_is = ap (λ (f : List (List ℕ)). f ++ x.rest) (sym x.begins.0) ∙ sym x.split in
    subst (λ (b : State Bytes). Leads b [] [] ps h) x.begins.1
    (subst (λ (f : List (List ℕ)). Leads base f [] ps h) x.begins.0
    (subst (λ (r : List (List ℕ)). Leads base x.front [] r h) rest_is x.leads))

-- no payloads stand for the empty account
pub no_history : IsHistoryOf [] first_state []
no_history = record { front = []; rest = []; split = refl; begins = (refl, refl); leads = refl }

pub one_history : (ps : List (List ℕ)) (a b : State Bytes) (h k : History) → IsHistoryOf ps a h → IsHistoryOf ps b k → (a ≡ b) × (h ≡ k)
one_history ps a b h k x y = (x.begins.1 ∙ sym y.begins.1, leads_one first_state [] [] ps h k (led ps a h x) (led ps b k y))

pub none_foreign : (ps : List (List ℕ)) (at : ℕ) (base : State Bytes) (h : History) → IsForeignAt ps at → ¬ (IsHistoryOf ps base h)
none_foreign ps at base h f is =
    let next = leads_next first_state [] [] f.before f.payload f.more h f.history (subst (λ (x : List (List ℕ)). Leads first_state [] [] x h) f.split (led ps base h is)) (led f.before f.base f.history f.reads) in
    f.strange next.0 (subst (λ (b : State Bytes). Adds f.before (replay b f.history) f.payload next.0) (sym f.reads.begins.1) next.1)
