-- What is kept where the regions of lines and fields and the registers for them are the same.
use Rattle.std.proofs.Common.{◌≡◌, ℕ, ◌+◌, ◌<◌, ◌≤◌, Bool, List, length, get_or, sym, ap, ◌∙◌, subst}
use Rattle.language.specs.Text.{each}
use Rattle.store.specs.Words.{window}
use Rattle.regions.specs.Parts.{Parts}
use Rattle.regions.specs.Places.{place_of}
use Rattle.lines.specs.declared.line.Line.{Line}
use Rattle.lines.specs.declared.cutting.Cut.{Cut}
use Rattle.lines.specs.Fields.{Sound, LineHolds, cut_out, places}
use Rattle.lines.specs.Laws.{InPlace, ScannedSo}
use Rattle.lines.specs.Scanning.{waiting}
use Rattle.lines.specs.Cutting.{cuts_of}
use Rattle.interp.specs.declared.registers.Registers.{Registers}
use Rattle.records.specs.Records.{Current, Waits, WithinLine, BetweenLines, SameRecords, InWords}

pub sound_kept : (p q : Parts) → q.fields ≡ p.fields → q.lines ≡ p.lines → Sound p → Sound q
sound_kept p q f g k = record { fields_room = ap length f ∙ k.fields_room; lines_room = ap length g ∙ k.lines_room }

holds_kept : (p q : Parts) (a c : Line) (l : List ℕ) (fs : List (List ℕ)) → q.fields ≡ p.fields → q.lines ≡ p.lines → c ≡ a → LineHolds p a l fs → LineHolds q c l fs
holds_kept p q a c l fs f g e h =
    record {
      bytes = ap (λ x. window x.place.start x.place.len q.lines) e ∙ ap (window a.place.start a.place.len) g ∙ h.bytes;
      whole = h.whole ∙ ap (λ x. x.place.len) (sym e);
      count = ap (λ x. x.fields) e ∙ h.count;
      room = h.room;
      inside = subst (λ x. (i : ℕ) → i < length fs → (place_of (get_or x i 0)).start + (place_of (get_or x i 0)).len ≤ length l) (sym f) h.inside;
      parts = ap (λ x. each (cut_out l) (places (length fs) x)) f ∙ h.parts;
    }

pub current_kept : (m : Parts) (r : Registers) (m₁ : Parts) (r₁ : Registers) (l : List ℕ) (fs : List (List ℕ)) → m₁.fields ≡ m.fields → m₁.lines ≡ m.lines → r₁.line ≡ r.line →
    Current m r l fs → Current m₁ r₁ l fs
current_kept m r m₁ r₁ l fs f g e c =
    record {
      sound = sound_kept m m₁ f g c.sound;
      holds = holds_kept m m₁ r.line r₁.line l fs f g e c.holds;
      in_place = subst InPlace (sym e) c.in_place;
    }

so_kept : (w : List ℕ) (p q : Parts) (a c : Cut) → q.fields ≡ p.fields → c ≡ a → ScannedSo w p a → ScannedSo w q c
so_kept w p q a c f e so =
    subst (ScannedSo w q) (sym e) (record { seed = so.seed; room = so.room; inside = so.inside; none = so.none; is = ap (λ x. cuts_of x a) f ∙ so.is })

pub waits_kept : (m : Parts) (r : Registers) (m₁ : Parts) (r₁ : Registers) (b : List ℕ) (z : Bool) → m₁.fields ≡ m.fields → m₁.lines ≡ m.lines → r₁.input ≡ r.input →
    Waits m r b z → Waits m₁ r₁ b z
waits_kept m r m₁ r₁ b z f g e w =
    record {
      sound = sound_kept m m₁ f g w.sound;
      held = w.held;
      are = ap (λ x. waiting x m₁.lines) e ∙ ap (waiting r.input) g ∙ w.are;
      whole = w.whole;
      seen = so_kept w.held m m₁ r.input.cut r₁.input.cut f (ap (λ x. x.cut) e) w.seen;
      end = ap (λ x. x.ended) e ∙ w.end;
      order = subst (λ x. x.from ≤ x.to) (sym e) w.order;
      inside = subst (λ x. x.to ≤ 69632) (sym e) w.inside;
      in_fields = subst InWords (sym f) w.in_fields;
      in_lines = subst InWords (sym g) w.in_lines;
    }

pub within_kept : (m : Parts) (r : Registers) (m₁ : Parts) (r₁ : Registers) (l : List ℕ) (fs : List (List ℕ)) (n : ℕ) (b : List ℕ) (z : Bool) → SameRecords m r m₁ r₁ →
    WithinLine m r l fs n b z → WithinLine m₁ r₁ l fs n b z
within_kept m r m₁ r₁ l fs n b z e h =
    record {
      current = current_kept m r m₁ r₁ l fs e.fields e.lines e.line h.current;
      count = e.count ∙ h.count;
      waits = waits_kept m r m₁ r₁ b z e.fields e.lines e.input h.waits;
      all = ap (λ x. waiting x m₁.lines) e.input ∙ ap (waiting r.input) e.lines ∙ h.all;
      unseen = ap (λ x. x.cut) e.input ∙ h.unseen;
    }

pub between_kept : (m : Parts) (r : Registers) (m₁ : Parts) (r₁ : Registers) (l : List ℕ) (fs : List (List ℕ)) (n : ℕ) (b : List ℕ) (z : Bool) → SameRecords m r m₁ r₁ →
    BetweenLines m r l fs n b z → BetweenLines m₁ r₁ l fs n b z
between_kept m r m₁ r₁ l fs n b z e h =
    record {
      current = λ q. current_kept m r m₁ r₁ l fs e.fields e.lines e.line (h.current q);
      in_place = subst InPlace (sym e.line) h.in_place;
      few_fields = subst (λ x. x.fields ≤ 16448) (sym e.line) h.few_fields;
      count = e.count ∙ h.count;
      waits = waits_kept m r m₁ r₁ b z e.fields e.lines e.input h.waits;
    }

-- the rules for a line are done
pub within_done : (m : Parts) (r : Registers) (l : List ℕ) (fs : List (List ℕ)) (n : ℕ) (b : List ℕ) (z : Bool) → WithinLine m r l fs n b z → BetweenLines m r l fs n b z
within_done m r l fs n b z h =
    record {
      current = λ q. h.current;
      in_place = h.current.in_place;
      few_fields = subst (λ x. x ≤ 16448) (sym h.current.holds.count) h.current.holds.room;
      count = h.count;
      waits = h.waits;
    }
