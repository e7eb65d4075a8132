-- What is saved comes back: the regions from the one list, and the registers from their words.
use Rattle.std.proofs.Common.{◌≡◌, ℕ, zero, suc, ◌+◌, ◌-◌, ◌*◌, ◌<◌, ◌≤◌, Bool, true, false, eqb, List, [], ◌∷◌, ◌++◌, length, get_or, take, drop, sym, refl, ap, ◌∙◌, subst, arith, length-append, length-drop, drop-drop}
use Rattle.std.proofs.lemmas.List.{take_at, drop_at, take_all, get_or-drop}
use Rattle.language.specs.Text.{pick, each, as_text, joined}
use Rattle.store.specs.Words.{window}
use Rattle.store.specs.Space.{Space, space, region}
use Rattle.regions.specs.Parts.{Parts, part, parts, words_of}
use Rattle.regions.specs.Parts as regions
use Rattle.rows.specs.Rows.{worths}
use Rattle.rows.proofs.Widths.{texts_width}
use Rattle.lines.proofs.Passing.{window_length}
use Rattle.interp.specs.declared.registers.Stage.{Stage}
use Rattle.interp.specs.declared.registers.Stage.TheVariants.{Begin, Lines, End}
use Rattle.interp.specs.declared.registers.Registers.{Registers}
use Rattle.interp.specs.Registers.{flag, flag_of, stage_number, stage_of, registers_in, line_in, input_in, print_in, row_of, saved_row, rested}
use Rattle.engine.specs.Prints.{few, line_text, values_text, pending_text}
use Rattle.engine.specs.Scenes.{Scene, regs_of, put_away, saved}
use Rattle.engine.proofs.Saving.{fitted_same}
use Rattle.records.specs.Records.{InWords, BetweenLines}
use Rattle.records.specs.Prints.{Pending}
use Rattle.records.specs.Saving.{Sized, Word, Small, SmallCode, SmallLines}
use Rattle.records.proofs.Later.{so_few, so_since}

-- REGIONS

-- a part and what is behind it

piece : (a k : ℕ) (j xs ys : List ℕ) → drop a j ≡ xs ++ ys → length xs ≡ k → part a k j ≡ xs
piece a k j xs ys e l = ap (take k) e ∙ take_at xs ys k l

onward : (a k b : ℕ) (j xs ys : List ℕ) → drop a j ≡ xs ++ ys → length xs ≡ k → a + k ≡ b → drop b j ≡ ys
onward a k b j xs ys e l f = ap (λ n. drop n j) (sym f) ∙ sym (drop-drop k a j) ∙ ap (drop k) e ∙ drop_at xs ys k l

same_parts : {a a₁ b b₁ c c₁ d d₁ e e₁ f f₁ h h₁ : List ℕ} {g g₁ : Space} → a ≡ a₁ → b ≡ b₁ → c ≡ c₁ → d ≡ d₁ → e ≡ e₁ → f ≡ f₁ → g ≡ g₁ → h ≡ h₁ →
    ◌≡◌ {A = Parts} (record { registers = a; code = b; slots = c; stack = d; fields = e; lines = f; texts = g; rest = h })
    (record { registers = a₁; code = b₁; slots = c₁; stack = d₁; fields = e₁; lines = f₁; texts = g₁; rest = h₁ })
same_parts a₂ b₂ c₂ d₂ e₂ f₂ g₂ h₂ = cc

-- a region of texts, from its words
texts_back : (s : Space) → length s.table ≡ 20480 → region (words_of s) ≡ s
unfolding space
texts_back s e =
    ap (λ x. record { top = s.top; free = s.free; table = x; heap = drop 20480 (s.table ++ s.heap) }) (take_at s.table s.heap 20480 e)
    ∙ ap (λ x. record { top = s.top; free = s.free; table = s.table; heap = x }) (drop_at s.table s.heap 20480 e)

words_size : (s : Space) → length s.table ≡ 20480 → length s.heap ≡ 77822 → length (words_of s) ≡ 98304
words_size s a b = omega (arith, length-append s.table s.heap)

pub parts_back : (p : Parts) → Sized p → parts (regions.joined p) ≡ p
unfolding parts regions.joined
parts_back p z =
    let j₇ : List ℕ = words_of p.texts ++ p.rest in
    let j₆ : List ℕ = p.lines ++ j₇ in
    let j₅ : List ℕ = p.fields ++ j₆ in
    let j₄ : List ℕ = p.stack ++ j₅ in
    let j₃ : List ℕ = p.slots ++ j₄ in
    let j₂ : List ℕ = p.code ++ j₃ in
    let j : List ℕ = p.registers ++ j₂ in
    let w = words_size p.texts z.table z.heap in
    let d₁ : drop 0 j ≡ j = refl in
    let d₂ : drop 64 j ≡ j₂ = onward 0 64 64 j p.registers j₂ d₁ z.registers refl in
    let d₃ : drop 12416 j ≡ j₃ = onward 64 12352 12416 j p.code j₃ d₂ z.code refl in
    let d₄ : drop 20608 j ≡ j₄ = onward 12416 8192 20608 j p.slots j₄ d₃ z.slots refl in
    let d₅ : drop 53440 j ≡ j₅ = onward 20608 32832 53440 j p.stack j₅ d₄ z.stack refl in
    let d₆ : drop 69888 j ≡ j₆ = onward 53440 16448 69888 j p.fields j₆ d₅ z.fields refl in
    let d₇ : drop 94976 j ≡ j₇ = onward 69888 25088 94976 j p.lines j₇ d₆ z.lines refl in
    let d₈ : drop 193280 j ≡ p.rest = onward 94976 98304 193280 j (words_of p.texts) p.rest d₇ w refl in
    same_parts (piece 0 64 j p.registers j₂ d₁ z.registers) (piece 64 12352 j p.code j₃ d₂ z.code) (piece 12416 8192 j p.slots j₄ d₃ z.slots)
    (piece 20608 32832 j p.stack j₅ d₄ z.stack) (piece 53440 16448 j p.fields j₆ d₅ z.fields) (piece 69888 25088 j p.lines j₇ d₆ z.lines)
    (ap region (piece 94976 98304 j (words_of p.texts) p.rest d₇ w) ∙ texts_back p.texts z.table) (ap (take 68864) d₈ ∙ take_all 68864 p.rest (omega (arith, z.rest)))

joined_size : (p : Parts) → Sized p → length (regions.joined p) ≡ 262144
unfolding regions.joined
joined_size p z =
    let j₇ : List ℕ = words_of p.texts ++ p.rest in
    let j₆ : List ℕ = p.lines ++ j₇ in
    let j₅ : List ℕ = p.fields ++ j₆ in
    let j₄ : List ℕ = p.stack ++ j₅ in
    let j₃ : List ℕ = p.slots ++ j₄ in
    let j₂ : List ℕ = p.code ++ j₃ in
    let n₇ : length j₇ ≡ 167168 = length-append (words_of p.texts) p.rest ∙ omega (arith, words_size p.texts z.table z.heap, z.rest) in
    let n₆ : length j₆ ≡ 192256 = length-append p.lines j₇ ∙ omega (arith, n₇, z.lines) in
    let n₅ : length j₅ ≡ 208704 = length-append p.fields j₆ ∙ omega (arith, n₆, z.fields) in
    let n₄ : length j₄ ≡ 241536 = length-append p.stack j₅ ∙ omega (arith, n₅, z.stack) in
    let n₃ : length j₃ ≡ 249728 = length-append p.slots j₄ ∙ omega (arith, n₄, z.slots) in
    let n₂ : length j₂ ≡ 262080 = length-append p.code j₃ ∙ omega (arith, n₃, z.code) in
    length-append p.registers j₂ ∙ omega (arith, n₂, z.registers)

-- WORDS

pub words_both : (xs ys : List ℕ) → InWords xs → InWords ys → (i : ℕ) → get_or (xs ++ ys) i 0 < 18446744073709551616
words_both [] ys a b i = b i
words_both (x ∷ xs) ys a b zero = a 0
words_both (x ∷ xs) ys a b (suc i) = words_both xs ys (λ j. a (suc j)) b i

pub words_back : (n : ℕ) (xs : List ℕ) → InWords xs → InWords (drop n xs)
words_back n xs h i = subst Word (sym (get_or-drop n xs i 0)) (h (n + i))

-- one by one
abbrev AllWords : List ℕ → Type 0
AllWords [] = Unit {0}
AllWords (x ∷ xs) = Word x × AllWords xs

words_all : (xs : List ℕ) → AllWords xs → (i : ℕ) → get_or xs i 0 < 18446744073709551616
words_all [] a i = omega arith
words_all (x ∷ xs) a zero = a.0
words_all (x ∷ xs) a (suc i) = words_all xs a.1 i

pub joined_words : (p : Parts) → Small p → InWords (regions.joined p)
unfolding regions.joined
joined_words p s =
    let j₇ : List ℕ = words_of p.texts ++ p.rest in
    let j₆ : List ℕ = p.lines ++ j₇ in
    let j₅ : List ℕ = p.fields ++ j₆ in
    let j₄ : List ℕ = p.stack ++ j₅ in
    let j₃ : List ℕ = p.slots ++ j₄ in
    let j₂ : List ℕ = p.code ++ j₃ in
    let w₉ : InWords (p.texts.table ++ p.texts.heap) = words_both p.texts.table p.texts.heap s.table s.heap in
    let w₈ : InWords (words_of p.texts) = words_both (p.texts.top ∷ p.texts.free ∷ []) (p.texts.table ++ p.texts.heap) (words_all (p.texts.top ∷ p.texts.free ∷ []) (s.top, (s.free, tt))) w₉ in
    let w₇ : InWords j₇ = words_both (words_of p.texts) p.rest w₈ s.rest in
    let w₆ : InWords j₆ = words_both p.lines j₇ s.lines w₇ in
    let w₅ : InWords j₅ = words_both p.fields j₆ s.fields w₆ in
    let w₄ : InWords j₄ = words_both p.stack j₅ s.stack w₅ in
    let w₃ : InWords j₃ = words_both p.slots j₄ s.slots w₄ in
    words_both p.registers j₂ s.registers (words_both p.code j₃ s.code w₃)

-- REGISTERS

flags : (b : Bool) → flag_of (flag b) ≡ b
flags true = refl
flags false = refl

stages : (s : Stage) → stage_of (stage_number s) ≡ s
unfolding stage_of
stages Begin = refl
stages Lines = refl
stages End = refl

registers_back : (r : Registers) (ws : List ℕ) → registers_in (saved_row (row_of r) ws) ≡ rested r
unfolding registers_in line_in input_in print_in row_of saved_row
registers_back r ws = simp (flags, stages)

flag_small : (b : Bool) → Word (flag b)
flag_small true = omega arith
flag_small false = omega arith

stage_small : (s : Stage) → Word (stage_number s)
stage_small Begin = omega arith
stage_small Lines = omega arith
stage_small End = omega arith

row_words : (r : Registers) → SmallCode r → SmallLines r → InWords (row_of r)
unfolding row_of
row_words r a b =
    words_all (row_of r) (
      a.pc,
      (
        a.depth,
        (
          flag_small r.running,
          (
            stage_small r.stage,
            (
              b.count,
              (
                b.start,
                (
                  b.len,
                  (
                    b.fields,
                    (
                      b.from,
                      (
                        b.to,
                        (
                          b.at,
                          (
                            b.since,
                            (
                              b.cut_fields,
                              (flag_small r.input.ended, (a.at_line, (a.at_end, (b.values, (b.out, tt))))),
                            ),
                          ),
                        ),
                      ),
                    ),
                  ),
                ),
              ),
            ),
          ),
        ),
      ),
    )

row_size : (r : Registers) → length (row_of r) ≡ 18
unfolding row_of
row_size r = refl

saved_size : (r : Registers) (ws : List ℕ) → length ws ≡ 64 → length (saved_row (row_of r) ws) ≡ 64
unfolding saved_row
saved_size r ws e = length-append (row_of r) (drop 18 ws) ∙ omega (arith, row_size r, length-drop 18 ws)

saved_words : (r : Registers) (ws : List ℕ) → SmallCode r → SmallLines r → InWords ws → InWords (saved_row (row_of r) ws)
unfolding saved_row
saved_words r ws a b h = words_both (row_of r) (drop 18 ws) (row_words r a b) (words_back 18 ws h)

-- ALL

pub away_sized : (p : Parts) (r : Registers) → Sized p → Sized (put_away p r)
away_sized p r z =
    record {
      registers = saved_size r p.registers z.registers;
      code = z.code;
      slots = z.slots;
      stack = z.stack;
      fields = z.fields;
      lines = z.lines;
      table = z.table;
      heap = z.heap;
      rest = z.rest;
    }

pub away_small : (p : Parts) (r : Registers) → Small p → SmallCode r → SmallLines r → Small (put_away p r)
away_small p r s a b =
    record {
      registers = saved_words r p.registers a b s.registers;
      code = s.code;
      slots = s.slots;
      stack = s.stack;
      fields = s.fields;
      lines = s.lines;
      top = s.top;
      free = s.free;
      table = s.table;
      heap = s.heap;
      rest = s.rest;
    }

pub saved_regions : (s : Scene) → s.size ≡ 262144 → Sized s.mem → Small s.mem → SmallCode s.regs → SmallLines s.regs → parts (saved s) ≡ put_away s.mem s.regs
unfolding saved
saved_regions s n z w a b =
    let p : Parts = put_away s.mem s.regs in
    let zp : Sized p = away_sized s.mem s.regs z in
    ap parts (fitted_same s.size (regions.joined p) (joined_size p zp ∙ sym n) (joined_words p (away_small s.mem s.regs w a b))) ∙ parts_back p zp

pub saved_registers : (s : Scene) → s.size ≡ 262144 → Sized s.mem → Small s.mem → SmallCode s.regs → SmallLines s.regs → regs_of (saved s) ≡ rested s.regs
saved_registers s n z w a b = ap (λ p. registers_in p.registers) (saved_regions s n z w a b) ∙ registers_back s.regs s.mem.registers

-- THE REGISTERS FOR LINES AND PRINTS

-- a print is no longer than memory has bytes for
text_small : (m : Parts) (r : Registers) → Sized m → length (pending_text m r) ≤ 12910084129
unfolding pending_text
text_small m r z = by (eqb (few r.print.values) 0)
  where
    n : ℕ
    n = few r.print.values

    line_small : length (line_text m r) ≤ 200705
    line_small =
        let l : List ℕ = window r.line.place.start r.line.place.len m.lines in
        let e : length (l ++ 10 ∷ []) ≡ length l + 1 = length-append l (10 ∷ []) in
        omega (arith, window_length r.line.place.start r.line.place.len m.lines z.lines)

    values_small : length (values_text m r n) ≤ 12910084129
    values_small =
        let i : ℕ = r.depth - n in
        let e = texts_width (regions.joined m) i n in
        let f : length (joined (each as_text (worths m i n))) ≤ 786433 * n = subst (λ p. length (joined (each as_text (worths p i n))) ≤ 786433 * n) (parts_back m z) e in
        omega (arith, length-append (joined (each as_text (worths m i n))) (10 ∷ []))

    by : (t : Bool) → length (pick t (line_text m r) (values_text m r n)) ≤ 12910084129
    by true = omega (arith, line_small)
    by false = values_small

pub lines_small : (m : Parts) (r : Registers) (l : List ℕ) (fs : List (List ℕ)) (n : ℕ) (b : List ℕ) (z : Bool) (u : List ℕ) → Sized m → BetweenLines m r l fs n b z → Pending m r u →
    Word n → SmallLines r
lines_small m r l fs n b z u sz h p w =
    let so = h.waits.seen in
    let k : length h.waits.held ≤ 200704 = omega (arith, ap length h.waits.are, window_length r.input.from (r.input.to - r.input.from) m.lines sz.lines) in
    record {
      count = subst Word (sym h.count) w;
      start = omega (arith, h.in_place.within);
      len = omega (arith, h.in_place.within);
      fields = omega (arith, h.few_fields);
      from = omega (arith, h.waits.order, h.waits.inside);
      to = omega (arith, h.waits.inside);
      at = omega (arith, so.inside, k);
      since = omega (arith, so.inside, k, so_since h.waits.held m r.input.cut so);
      cut_fields = omega (arith, so_few h.waits.held m r.input.cut so, k);
      values = omega (arith, p.few_values);
      out = omega (arith, p.part, text_small m r sz);
    }
