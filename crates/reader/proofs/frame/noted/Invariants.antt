-- `frame::noted` meets its contract: what is counted and what is left are all notes.
use Rattle.std.proofs.Common.{◌≡◌, ◌+◌, ◌≤◌, drop}
use Rattle.grammar.specs.Reading.{noted_places}
use Rattle.reader.proofs.frame.noted.Given as goal

abbrev pub invariant-loop-note : goal.invariant-loop-note
invariant-loop-note l = (l.count ≤ l.note-index) × (l.count + noted_places (drop l.note-index l.notes) ≡ noted_places l.notes)
