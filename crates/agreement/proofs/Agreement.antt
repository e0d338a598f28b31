-- Demand 3: the box's reader and the plain one agree. The box's reader asks the three-way answer and notes the heads that failed; the plain one tries a head wherever
-- one could open and remembers nothing: `box_reading`, `plain_reading` (grammar, Reading). `NoEarly sheet` (Terms) says that nowhere stand Async, `(` with no line break
-- before it, `...` and kind 1. Nothing else is asked of a list, not even the checks. Assumes nothing.
use Prim.Native.Nat.{◌≤◌}
use mathlib.Core.Logic.{◌↔◌}
use mathlib.Core.List.{List}
use native.Mathlib.Omega.{arith}
use lib.ListN.{length}
use Rattle.rows.specs.Tree.{Forest}
use Rattle.rows.specs.Record.{Record}
use Rattle.grammar.specs.Sheet.{Sheet}
use Rattle.grammar.specs.Job.{Job, expression, binding_element}
use Rattle.grammar.specs.Step.{plenty}
use Rattle.grammar.specs.Reading.{reading, box, plain, cleared, box_reading, plain_reading, box_pattern, plain_pattern}
use Rattle.laws.specs.Settles.{looked_at}
use Rattle.laws.proofs.Settles.{in_plenty}
use Rattle.laws.proofs.Good.{came}
use Rattle.agreement.specs.Terms.{ReadAs, NoEarly}
use Rattle.agreement.proofs.Leads.{whole_led}
use Rattle.agreement.proofs.OneSided.{plain_reads}
use Rattle.agreement.proofs.Notes.{sound_cleared, follows_plain}
use Rattle.agreement.proofs.Lookahead.{told, three_way_right}

-- what the box's reader reads, the plain one reads
pub one_way : (sheet : Sheet) (job : Job) → looked_at job ≤ length sheet.kinds → (trees : Forest) (records : List Record)
    → ReadAs (reading (box sheet) sheet job cleared) trees records → ReadAs (reading plain sheet job tt) trees records
one_way sheet job i trees records r = record { after = tt; is_whole = plain_reads (box sheet) sheet job i cleared r.is_whole }

-- what the plain reader reads, the box's one reads
pub other_way : (sheet : Sheet) (job : Job) → looked_at job ≤ length sheet.kinds → NoEarly sheet → (trees : Forest) (records : List Record)
    → ReadAs (reading plain sheet job tt) trees records → ReadAs (reading (box sheet) sheet job cleared) trees records
other_way sheet job i none trees records r =
    whole_led plain (box sheet) sheet job tt cleared (came plain sheet job tt r.is_whole)
    (follows_plain sheet (told sheet) (three_way_right sheet none) job i (plenty sheet) (plenty sheet) (in_plenty sheet job) (in_plenty sheet job) cleared (sound_cleared sheet))

-- Without the early commit, the box's reader reads a list exactly if the plain one does, as the same trees with the same records.
pub agreement : (sheet : Sheet) → NoEarly sheet → (trees : Forest) (records : List Record)
    → ReadAs (box_reading sheet) trees records ↔ ReadAs (plain_reading sheet) trees records
agreement sheet none trees records = (one_way sheet (expression 0) (omega arith) trees records, other_way sheet (expression 0) (omega arith) none trees records)

-- The same of the pattern entry.
pub pattern_agreement : (sheet : Sheet) → NoEarly sheet → (trees : Forest) (records : List Record)
    → ReadAs (box_pattern sheet) trees records ↔ ReadAs (plain_pattern sheet) trees records
pattern_agreement sheet none trees records =
    (one_way sheet (binding_element 0) (omega arith) trees records, other_way sheet (binding_element 0) (omega arith) none trees records)

-- With no exception: where the box's reader reads, the plain one reads the same.
pub plain_reads_too : (sheet : Sheet) (trees : Forest) (records : List Record) → ReadAs (box_reading sheet) trees records → ReadAs (plain_reading sheet) trees records
plain_reads_too sheet trees records r = one_way sheet (expression 0) (omega arith) trees records r

-- The same of the pattern entry.
pub plain_pattern_reads_too : (sheet : Sheet) (trees : Forest) (records : List Record) → ReadAs (box_pattern sheet) trees records → ReadAs (plain_pattern sheet) trees records
plain_pattern_reads_too sheet trees records r = one_way sheet (binding_element 0) (omega arith) trees records r
