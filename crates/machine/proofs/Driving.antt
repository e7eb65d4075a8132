-- A driver that obeys the machine's last act and tells it the next event has made one act more of the machine's own run, and just its calls.
use Rattle.std.proofs.Common.{◌≡◌, ℕ, zero, suc, ◌+◌, ◌<◌, ◌≤◌, Bool, true, false, ltb, List, [], ◌∷◌, ◌++◌, length, get_or, take, drop, Ok, Err, Result, sym, refl, ap, ◌∙◌, subst, append_assoc, append-nil, zero-add, arith, length-append, length-take}
use Rattle.std.proofs.lemmas.Bool.{le-leb, lt-ltb, eq-eqb}
use Rattle.std.proofs.lemmas.List.{take_at}
use Rattle.std.specs.Result.{IsErrAnd}
use Rattle.language.specs.Text.{pick, or, none_of, every}
use Rattle.language.specs.Run.{Engine, Event, started, bytes, no_more, next, Act, more, write, done, refused, first_piece, other_pieces, one_act, runs, run_of, ran, came, a_row}
use Rattle.machine.specs.declared.Told.{Told}
use Rattle.machine.specs.declared.Told.TheVariants.{More, Write, Done, No}
use Rattle.machine.specs.Entry.{own, ActTold, TellSays, tell_fits}
use Rattle.machine.specs.declared.drive.Failure.{Failure}
use Rattle.machine.specs.declared.drive.Failure.TheVariants.{Refused, Broken, Endless}
use Rattle.machine.specs.Drive.{Call, took, ended, showed, asks, obeyed, calls, shown, ShownIsWritten, Account, Chain, Going, Reached, EndedSo, done_end, refused_end}
use Rattle.machine.proofs.Says.{own_length}

chain_on : {S : Type 0} (a : Account S) (s : S) (cs ds : List Call) (r q : S) → Chain a s cs r → Chain a r ds q → Chain a s (cs ++ ds) q
chain_on {S} a s [] ds r q h k = rw h k
chain_on {S} a s (c ∷ cs) ds r q h k = (h.0, h.1, chain_on a h.0 cs ds r q h.2 k)

-- a step of the code that fits is one of the machine's
step_did : (m : List ℕ) (ev : Event) (p o : List ℕ) (r : Told) (m₁ o₁ : List ℕ) → length m ≡ 262144 → length p ≤ 4096 → length o ≡ 4096 →
    TellSays m ev o (tell_fits m p o) r m₁ o₁ → (m₁ ≡ (own.step m ev).memory) × ActTold (own.step m ev).act r o o₁
unfolding tell_fits TellSays
step_did m ev p o r m₁ o₁ a b c h =
    let e : tell_fits m p o ≡ true = rw (eq-eqb (length m) (length own.start) (a ∙ sym own_length), le-leb (length p) 4096 b, le-leb 4096 (length o) (omega arith)) in
    rw e at h

module _ {S : Type 0} {a : Account S} {t : List ℕ} {w₀ : S} {over : Bool} {told : Told} {row m : List ℕ} {w : S} (G : Going a t w₀ over told row m w) where
  -- one act more: these calls, these pieces, this event
  module _ (cs : List Call) (qs : List (List ℕ)) (ev : Event) (over₁ : Bool) (written₁ : List ℕ) (asked : Bool) (w₁ : S)
      (chain : Chain a w cs w₁)
      (few : (fu : List (List ℕ)) → (over₁ ≡ true → fu ≡ []) → over ≡ true → qs ++ fu ≡ [])
      (call : (fu : List (List ℕ)) → (over₁ ≡ true → fu ≡ []) → (go : List ℕ → Event → List (List ℕ) → Bool → List Call) → obeyed go (qs ++ fu) over m G.act ≡ cs ++ go m ev fu over₁)
      (act : (fu : List (List ℕ)) → (over₁ ≡ true → fu ≡ []) → (go : List ℕ → Event → List (List ℕ) → List ℕ → ℕ → Bool → _) → one_act go (qs ++ fu) G.written G.given m G.act ≡ go m ev fu written₁ G.given asked)
      (told₁ : Told) (row₁ m₁ : List ℕ) (mem : m₁ ≡ (own.step m ev).memory) (says : ActTold (own.step m ev).act told₁ row row₁) where
    made₁ : calls (suc G.n) own own.start (started t) (G.ps ++ qs) false ≡ G.log ++ cs
    unfolding calls
    made₁ =
        let e : G.n + 1 ≡ suc G.n = omega arith in
        let h = G.calls_on (qs ++ []) 0 (few [] (λ o. refl)) in
        let i = call [] (λ o. refl) (λ m₁ ev₁ ps₁ over₁. calls 0 own m₁ ev₁ ps₁ over₁) in
        simp (e, append-nil) at (h ∙ ap (λ z. G.log ++ z) i)

    busy₁ : (run_of (suc G.n) own t (G.ps ++ qs)).end ≡ 10000000
    unfolding runs
    busy₁ =
        let e : G.n + 1 ≡ suc G.n = omega arith in
        let h = G.runs_on (qs ++ []) 0 (few [] (λ o. refl)) in
        let i = act [] (λ o. refl) (λ m₁ ev₁ ps₁ w₁ g₁ a₁. runs 0 own m₁ ev₁ ps₁ w₁ g₁ a₁) in
        simp (e, append-nil) at (ap (λ r. r.end) (h ∙ i))

    calls_on₁ : (fu : List (List ℕ)) (k : ℕ) → (over₁ ≡ true → fu ≡ []) →
        calls (suc G.n + suc k) own own.start (started t) ((G.ps ++ qs) ++ fu) false
        ≡ (G.log ++ cs) ++ obeyed (λ m₂ ev₂ ps₂ over₂. calls k own m₂ ev₂ ps₂ over₂) fu over₁ m₁ (own.step m ev).act
    unfolding calls
    calls_on₁ fu k o =
        let e : suc G.n + suc k ≡ G.n + suc (suc k) = omega arith in
        let i = call fu o (λ m₂ ev₂ ps₂ over₂. calls (suc k) own m₂ ev₂ ps₂ over₂) in
        rw (e, append_assoc G.ps qs fu, G.calls_on (qs ++ fu) (suc k) (few fu o), i, append_assoc, mem)

    runs_on₁ : (fu : List (List ℕ)) (k : ℕ) → (over₁ ≡ true → fu ≡ []) →
        runs (suc G.n + suc k) own own.start (started t) ((G.ps ++ qs) ++ fu) [] 0 false
        ≡ one_act (λ m₂ ev₂ ps₂ w₂ g₂ a₂. runs k own m₂ ev₂ ps₂ w₂ g₂ a₂) fu written₁ (G.given + pick asked (came ev) 0) m₁ (own.step m ev).act
    unfolding runs
    runs_on₁ fu k o =
        let e : suc G.n + suc k ≡ G.n + suc (suc k) = omega arith in
        let i = act fu o (λ m₂ ev₂ ps₂ w₂ g₂ a₂. runs (suc k) own m₂ ev₂ ps₂ w₂ g₂ a₂) in
        rw (e, append_assoc, G.runs_on (qs ++ fu) (suc k) (few fu o), i, mem)

    one_more : Going a t w₀ over₁ told₁ row₁ m₁ w₁
    one_more = record {
      n = suc G.n;
      ps = G.ps ++ qs;
      log = G.log ++ cs;
      written = written₁;
      given = G.given + pick asked (came ev) 0;
      act = (own.step m ev).act;
      lent = row;
      chain = chain_on a w₀ G.log cs w w₁ G.chain chain;
      made = made₁;
      busy = busy₁;
      calls_on = calls_on₁;
      runs_on = runs_on₁;
      says = says;
    }

-- which act an answer is, with the row beside it
abbrev pub act_of : Told → (row : List ℕ) → Act
act_of More row = more
act_of (Write n) row = write (take n row)
act_of (Done k) row = done k
act_of (No k) row = refused k

pub act_is : (act : Act) (told : Told) (out row : List ℕ) → ActTold act told out row → act ≡ act_of told row
unfolding ActTold
act_is more told out row h = rw h.0
act_is (write bs) told out row h = rw (h.0, h.1) (ap write (sym (take_at bs (drop (length bs) out) _ refl)))
act_is (done k) told out row h = rw h.0
act_is (refused k) told out row h = rw h.0

-- what is written stands in the row
within : (act : Act) (n : ℕ) (out row : List ℕ) → ActTold act (Write n) out row → n ≤ length row
unfolding ActTold
within more n out row h = absurd (cc)
within (write bs) n out row h = let e : n ≡ length bs = cc in omega (arith, length-append bs (drop (length bs) out), ap length h.1)
within (done k) n out row h = absurd (cc)
within (refused k) n out row h = absurd (cc)

module _ {S : Type 0} (a : Account S) (told₁ : Told) (row₁ m₁ : List ℕ) (row m : List ℕ) (w : S) (lm : length m ≡ 262144) (lr : length row ≡ 4096) where
  -- it asks again, though there are no more
  pub asks_again : TellSays m no_more row (tell_fits m [] row) told₁ m₁ row₁ →
      (over : Bool) → over ≡ true → (t : List ℕ) (w₀ : S) → Going a t w₀ over More row m w → Going a t w₀ true told₁ row₁ m₁ w
  unfolding one_act
  asks_again h over e t w₀ G =
      let d = step_did m no_more [] row told₁ m₁ row₁ lm (omega arith) lr h in
      let i : G.act ≡ more = act_is G.act More G.lent row G.says in
      one_more G [] [] no_more true G.written true w refl (λ fu o f. o refl)
      (λ fu o go. rw (i, o refl, e)) (λ fu o go. rw (i, o refl)) told₁ row₁ m₁ d.0 d.1

  -- the world has no more
  pub asks_none : (w₁ : S) → a.ends w w₁ → TellSays m no_more row (tell_fits m [] row) told₁ m₁ row₁ →
      (over : Bool) → over ≡ false → (t : List ℕ) (w₀ : S) → Going a t w₀ over More row m w → Going a t w₀ true told₁ row₁ m₁ w₁
  unfolding one_act
  asks_none w₁ l h over e t w₀ G =
      let d = step_did m no_more [] row told₁ m₁ row₁ lm (omega arith) lr h in
      let i : G.act ≡ more = act_is G.act More G.lent row G.says in
      one_more G (ended ∷ []) [] no_more true G.written true w₁ (w₁, l, refl) (λ fu o f. cc)
      (λ fu o go. rw (i, o refl, e)) (λ fu o go. rw (i, o refl)) told₁ row₁ m₁ d.0 d.1

  -- the world gives a piece
  pub asks_piece : (q : List ℕ) → length q ≤ 4096 → (w₁ : S) → a.takes w q w₁ → TellSays m (bytes q) row (tell_fits m q row) told₁ m₁ row₁ →
      (over : Bool) → over ≡ false → (t : List ℕ) (w₀ : S) → Going a t w₀ over More row m w → Going a t w₀ over told₁ row₁ m₁ w₁
  unfolding one_act
  asks_piece q lq w₁ l h over e t w₀ G =
      let d = step_did m (bytes q) q row told₁ m₁ row₁ lm lq lr h in
      let i : G.act ≡ more = act_is G.act More G.lent row G.says in
      one_more G (took q ∷ []) (q ∷ []) (bytes q) over G.written true w₁ (w₁, l, refl) (λ fu o f. cc)
      (λ fu o go. rw (i, e)) (λ fu o go. rw i) told₁ row₁ m₁ d.0 d.1

-- the first bytes of a row of bytes are one
bytes_fit : (n : ℕ) (row : List ℕ) → ((i : ℕ) → get_or row i 0 < 256) → every (λ b. ltb b 256) (take n row) ≡ true
bytes_fit zero row f = refl
bytes_fit (suc n) [] f = refl
bytes_fit (suc n) (b ∷ row) f = rw (lt-ltb b 256 (f 0)) (bytes_fit n row (λ i. f (suc i)))

pub row_fits : (n : ℕ) (row : List ℕ) → n ≤ 4096 → ((i : ℕ) → get_or row i 0 < 256) → a_row (take n row) ≡ true
row_fits n row l f = rw (le-leb (length (take n row)) 4096 (omega (arith, length-take n row)), bytes_fit n row f)

-- the world shows what is written
pub writes_row : {S : Type 0} (a : Account S) (told₁ : Told) (row₁ m₁ row m : List ℕ) (w w₁ : S) (n : ℕ) → length m ≡ 262144 → length row ≡ 4096 → a_row (take n row) ≡ true →
    a.shows w (take n row) w₁ → TellSays m next row (tell_fits m [] row) told₁ m₁ row₁ →
    (over : Bool) (t : List ℕ) (w₀ : S) → Going a t w₀ over (Write n) row m w → Going a t w₀ over told₁ row₁ m₁ w₁
unfolding one_act
writes_row a told₁ row₁ m₁ row m w w₁ n lm lr k l h over t w₀ G =
    let d = step_did m next [] row told₁ m₁ row₁ lm (omega arith) lr h in
    let i : G.act ≡ write (take n row) = act_is G.act (Write n) G.lent row G.says in
    one_more G (showed (take n row) ∷ []) [] next over (G.written ++ take n row) false w₁ (w₁, l, refl) (λ fu o e. o e)
    (λ fu o go. rw (i, k)) (λ fu o go. rw (i, k)) told₁ row₁ m₁ d.0 d.1

-- the machine was told its program, and nothing else happened yet
pub starts : {S : Type 0} (a : Account S) (told : Told) (row₁ m₁ row m t : List ℕ) (w : S) → m ≡ own.start → length row ≡ 4096 → length t ≤ 4096 →
    TellSays m (started t) row (tell_fits m t row) told m₁ row₁ → Going a t w false told row₁ m₁ w
unfolding calls runs
starts a told row₁ m₁ row m t w e lr lt h =
    let d = step_did m (started t) t row told m₁ row₁ (ap length e ∙ own_length) lt lr h in
    let i : m₁ ≡ (own.step own.start (started t)).memory = d.0 ∙ ap (λ x. (own.step x (started t)).memory) e in
    let P : List ℕ → Type 0 = λ x. ActTold (own.step x (started t)).act told row row₁ in
    record {
      n = 0;
      ps = [];
      log = [];
      written = [];
      given = 0;
      act = (own.step own.start (started t)).act;
      lent = row;
      chain = refl;
      made = refl;
      busy = refl;
      calls_on = λ fu k o. rw (zero-add, i);
      runs_on = λ fu k o. rw (zero-add, i);
      says = subst P e d.1;
    }

module _ {S : Type 0} {a : Account S} {t : List ℕ} {w₀ : S} {over : Bool} {told : Told} {row m : List ℕ} {w : S} (G : Going a t w₀ over told row m w) where
  so_far : Reached a t w₀ 10000000 w
  so_far = let P : List Call → Type 0 = λ cs. Chain a w₀ cs w in (G.n, G.ps, subst P (sym G.made) G.chain, G.busy)

  -- it is still going on
  pub goes_on : (E : Type 0) → EndedSo {E = E} a t w₀ (Err Endless) w
  unfolding EndedSo
  goes_on E = so_far

  -- the world failed: the run had come to a world before that
  pub broke : {E : Type 0} (w₁ : S) (e : E) (r : Result ℕ (Failure E)) → IsErrAnd r (λ f. f ≡ Broken e) → EndedSo a t w₀ r w₁
  unfolding EndedSo
  broke w₁ e (Ok k) h = absurd h
  broke {E} w₁ e (Err f) h = let P : Failure E → Type 0 = λ g. EndedSo a t w₀ (Err g) w₁ in subst P (sym h) (w, so_far)

  -- an act that makes no call ends it
  last_act : (end : ℕ) → ((go : List ℕ → Event → List (List ℕ) → Bool → List Call) → obeyed go [] over m G.act ≡ []) →
      ((go : List ℕ → Event → List (List ℕ) → List ℕ → ℕ → Bool → _) → (one_act go [] G.written G.given m G.act).end ≡ end) → Reached a t w₀ end w
  last_act end no_call at_end =
      let P : List Call → Type 0 = λ cs. Chain a w₀ cs w in
      let h = G.calls_on [] 0 (λ o. refl) ∙ ap (λ z. G.log ++ z) (no_call (λ m₁ ev₁ ps₁ over₁. calls 0 own m₁ ev₁ ps₁ over₁)) ∙ append-nil G.log in
      (G.n + 1, G.ps ++ [], subst P (sym h) G.chain, ap (λ r. r.end) (G.runs_on [] 0 (λ o. refl)) ∙ at_end (λ m₁ ev₁ ps₁ w₁ g₁ a₁. runs 0 own m₁ ev₁ ps₁ w₁ g₁ a₁))

  pub done_with : (E : Type 0) (k : ℕ) → told ≡ Done k → EndedSo {E = E} a t w₀ (Ok k) w
  unfolding one_act EndedSo
  done_with E k e =
      let i : G.act ≡ done k = act_is G.act told G.lent row G.says ∙ ap (λ x. act_of x row) e in
      last_act (done_end k) (λ go. rw i) (λ go. rw i)

  pub refused_with : (E : Type 0) (k : ℕ) → told ≡ No k → EndedSo {E = E} a t w₀ (Err (Refused k)) w
  unfolding one_act EndedSo
  refused_with E k e =
      let i : G.act ≡ refused k = act_is G.act told G.lent row G.says ∙ ap (λ x. act_of x row) e in
      last_act (refused_end k) (λ go. rw i) (λ go. rw i)

  -- what it writes stands in the row
  pub write_within : (n : ℕ) → told ≡ Write n → n ≤ length row
  write_within n e =
      let P : Told → Type 0 = λ x. ActTold G.act x G.lent row in
      within G.act n G.lent row (subst P e G.says)

-- what is shown is what is written: act by act, from what was written before
module _ (e : Engine) where
  abbrev Writes : ℕ → Type 0
  Writes n = (m : List ℕ) (ev : Event) (ps : List (List ℕ)) (w : List ℕ) (g : ℕ) (b over : Bool) → (runs n e m ev ps w g b).written ≡ w ++ shown (calls n e m ev ps over)

  asks_shows : (over : Bool) (ps : List (List ℕ)) (cs : List Call) → shown (asks over ps ++ cs) ≡ shown cs
  asks_shows over (p ∷ ps) cs = refl
  asks_shows true [] cs = refl
  asks_shows false [] cs = refl

  row_writes : (n : ℕ) → Writes n → (m : List ℕ) (ps : List (List ℕ)) (w bs : List ℕ) (g : ℕ) (over : Bool) (c : Bool) →
      (pick c (runs n e m next ps (w ++ bs) g false) (ran w g false 9999999)).written ≡ w ++ shown (pick c (showed bs ∷ calls n e m next ps over) [])
  row_writes n ih m ps w bs g over true = ih m next ps (w ++ bs) g false over ∙ append_assoc w bs (shown (calls n e m next ps over))
  row_writes n ih m ps w bs g over false = sym (append-nil w)

  act_writes : (n : ℕ) → Writes n → (m : List ℕ) (ps : List (List ℕ)) (w : List ℕ) (g : ℕ) (over : Bool) (act : Act) →
      (one_act (λ m₁ ev₁ ps₁ w₁ g₁ a₁. runs n e m₁ ev₁ ps₁ w₁ g₁ a₁) ps w g m act).written ≡ w ++ shown (obeyed (λ m₁ ev₁ ps₁ over₁. calls n e m₁ ev₁ ps₁ over₁) ps over m act)
  unfolding one_act
  act_writes n ih m ps w g over more =
      ih m (first_piece ps) (other_pieces ps) w g true (or over (none_of ps))
      ∙ ap (λ z. w ++ z) (sym (asks_shows over ps (calls n e m (first_piece ps) (other_pieces ps) (or over (none_of ps)))))
  act_writes n ih m ps w g over (write bs) = row_writes n ih m ps w bs g over (a_row bs)
  act_writes n ih m ps w g over (done k) = sym (append-nil w)
  act_writes n ih m ps w g over (refused k) = sym (append-nil w)

  runs_write : (n : ℕ) → Writes n
  unfolding runs calls
  runs_write zero m ev ps w g b over = sym (append-nil w)
  runs_write (suc n) m ev ps w g b over = act_writes n (runs_write n) (e.step m ev).memory ps w (g + pick b (came ev) 0) over (e.step m ev).act

pub shown_is_written : ShownIsWritten
unfolding ShownIsWritten
shown_is_written e n t ps = runs_write e n e.start (started t) ps [] 0 false false
