-- What comes between two runs through the code. Assumes nothing: these are definitions.
use Rattle.std.specs.Prelude.{ℕ, ◌-◌, min, true, Some, None, Option, nat_lt}
use Rattle.language.specs.Text.{pick}
use Rattle.regions.specs.Parts.{Parts, with_fields}
use Rattle.lines.specs.declared.line.Line.{Line}
use Rattle.lines.specs.declared.input.Input.{Input}
use Rattle.lines.specs.Scanning.{Scanned, scan_of, after_scan, found_of, last_words, after_last, last_of}
use Rattle.interp.specs.Outcomes.{Turn, On, Ask, Done, Refuse}
use Rattle.interp.specs.declared.registers.Stage.{Stage}
use Rattle.interp.specs.declared.registers.Stage.TheVariants.{Begin, Lines, End}
use Rattle.interp.specs.declared.registers.Registers.{Registers}
use Rattle.interp.specs.Turns.{Did, says, after}

-- at the beginning of the rules for a line
abbrev pub opening : Registers → Input → Line → Registers
opening r i l =
    record {
      pc = r.at_line;
      depth = r.depth;
      running = true;
      stage = Lines;
      count = after r.count;
      line = l;
      input = i;
      at_line = r.at_line;
      at_end = r.at_end;
      print = r.print;
      used = r.used;
    }

-- at the beginning of the rules for the end
abbrev pub closing : Registers → Input → Registers
closing r i =
    record {
      pc = r.at_end;
      depth = r.depth;
      running = true;
      stage = End;
      count = r.count;
      line = r.line;
      input = i;
      at_line = r.at_line;
      at_end = r.at_end;
      print = r.print;
      used = r.used;
    }

abbrev pub with_input : Registers → Input → Registers
with_input r i =
    record {
      pc = r.pc;
      depth = r.depth;
      running = r.running;
      stage = r.stage;
      count = r.count;
      line = r.line;
      input = i;
      at_line = r.at_line;
      at_end = r.at_end;
      print = r.print;
      used = r.used;
    }

-- a line was found: more than 65,535 bytes are too many, and more than 16,448 fields have no room

unfoldable pub started_regs : Registers → Input → Line → Registers
started_regs r i l = pick (nat_lt 65535 l.place.len) r (pick (nat_lt 16448 l.fields) r (opening r i l))

unfoldable pub started_turn : Line → Turn
started_turn l = pick (nat_lt 65535 l.place.len) (Refuse 7) (pick (nat_lt 16448 l.fields) (Refuse 8) On)

abbrev pub started : Parts → Registers → Input → Line → Did
started p r i l = says (started_turn l) p (started_regs r i l)

-- how many bytes wait, and what comes of it when they are part of a line

abbrev pub waits : Input → ℕ
waits i = min (i.to - i.from) (200704 - i.from)

unfoldable pub waited_regs : Registers → Input → Registers
waited_regs r i = pick (nat_lt 65535 (waits i)) r (with_input r i)

unfoldable pub waited_turn : Input → Turn
waited_turn i = pick (nat_lt 65535 (waits i)) (Refuse 7) Ask

-- the end was told, with these bytes for a last line

abbrev pub last_started : Parts → Registers → Input → Option Line → Did
last_started p r i None = says On p (closing r i)
last_started p r i (Some l) = started p r i l

unfoldable pub last_taken : Parts → Registers → Input → Did
last_taken p r i = last_started (with_fields p (last_words p i)) r (after_last p i) (last_of p i)

-- the next line is looked for

abbrev pub sought : Parts → Registers → Input → Option Line → Did
sought p r i (Some l) = started p r i l
sought p r i None = pick i.ended (last_taken p r i) (says (waited_turn i) p (waited_regs r i))

abbrev pub sought_by : Parts → Registers → Scanned → Did
sought_by p r s = sought (with_fields p s.cuts.words) r (after_scan r.input s) (found_of r.input s)

unfoldable pub line_sought : Parts → Registers → Did
line_sought p r = sought_by p r (scan_of p r.input)

-- by the stage: behind the end there is nothing

abbrev pub next_by : Stage → Parts → Registers → Did
next_by Begin p r = line_sought p r
next_by Lines p r = line_sought p r
next_by End p r = says (Done 0) p r

unfoldable pub line_next : Parts → Registers → Did
line_next p r = next_by r.stage p r
