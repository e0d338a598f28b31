-- The promises of the definition of a reading: the words that they are said in (notes of heads that were given up, where rows lie and refusals stand, well-formed trees of a class),
-- and each promise as a type with a short name. Those of the box's reader are said of `box_reading` and `box_pattern`.
use Rattle.std.specs.Prelude.{◌+◌, ◌≤◌, ◌<◌, ◌≡◌, ◌∷◌, if◌then◌else◌}
use Rattle.rows.specs.Base.{ℕ, List, [], length, get_or, ◌is◌, ◌and◌, Forest, Tree, node, nil, cons, kind_of, kids_of, one, sizes, Record, number, place, Cause, Bool, true}
use Rattle.grammar.specs.{Sheet.Sheet, Sheet.Out, Sheet.stuck, Job.Job, Job.expression, Job.binding_element, Arrow.Policy, Step.read, Step.plenty}
use Rattle.grammar.specs.Reading.{box, cleared, noted_places, whole, reading, refused, box_reading, box_pattern}
use Rattle.rows.specs.Shape.{last_kind, well_formed, is_expression, is_parameter}
use Rattle.laws.specs.Settles.{μ, Settles, looked_at, Comes}

pub record Log : Type 0 where  -- the box's notes, and the places that were abandoned, the last first
  pub notes : List ℕ
  pub places : List ℕ

abbrev pub logging : Sheet → Policy Log  -- the box's policy, which also logs each abandoned head
logging sheet =
    record {
      way = λ at log. (box sheet).way at log.notes;
      mark = λ at log. record { notes = (box sheet).mark at log.notes; places = at ∷ log.places };
    }

unfoldable pub times : ℕ → List ℕ → ℕ  -- how often a place stands in a list
times place [] = 0
times place (at ∷ places) = (if at is place then 1 else 0) + times place places

-- no place stands in the log twice; it stands there exactly if it is noted; and the log is as long as the number of noted places
pub record Once (notes places : List ℕ) : Type 0 where
  pub once : (place : ℕ) → times place places ≤ 1
  pub noted : (place : ℕ) → times place places ≡ get_or notes place 0
  pub counted : length places ≡ noted_places notes

pub record Fine (notes : List ℕ) : Type 0 where  -- notes that cover 2,048 places, each 0 or 1
  pub long : length notes ≡ 2048
  pub each : (place : ℕ) → get_or notes place 0 ≤ 1

-- what the reader with the log reads: the same, with the same notes, and a log in which no place stands twice
pub record Logged (sheet : Sheet) (job : Job) (trees : Forest) (records : List Record) (notes : List ℕ) : Type 0 where
  pub places : List ℕ
  pub reads_too : reading (logging sheet) sheet job (record { notes = cleared; places = [] }) ≡ whole trees records (record { notes = notes; places = places })
  pub log_once : Once notes places

mutual
  -- a tree lies between two places: so does its row, its mark is one of its tokens, and its kids lie inside it
  pub data Lies : ℕ → ℕ → Tree → Type 0 where
    row_lies : {low high kind mark first end : ℕ} {kids : Forest} → low ≤ first → first ≤ mark → mark < end → end ≤ high → Lie first end kids
        → Lies low high (node kind mark first end kids)

  pub data Lie : ℕ → ℕ → Forest → Type 0 where  -- trees lie between two places, one after the other
    none : {low high : ℕ} → low ≤ high → Lie low high nil
    next : {low high : ℕ} {t : Tree} {ts : Forest} (middle : ℕ) → Lies low middle t → Lie middle high ts → Lie low high (cons t ts)

pub record Inside (sheet : Sheet) (cause : Cause) : Type 0 where  -- a cause stands at a token, or at the end, and is one of those that a reading has
  pub there : place cause ≤ length sheet.kinds
  -- 8 to 12
  pub from_eight : 8 ≤ number cause
  pub to_twelve : number cause ≤ 12

abbrev pub Kinds : Type 0  -- kinds of rows
Kinds = ℕ → Bool

abbrev pub Ends : Type 0  -- the kind of a kid, and that of its own last kid
Ends = ℕ → ℕ → Bool

pub data Class : Type 0 where  -- what a place asks of a row: one of some kinds; or one of them, whose last kid may be there
  of : Kinds → Class
  within : Ends → Kinds → Class

unfoldable pub in_class : Class → ℕ → ℕ → Bool
in_class (of kinds) kind last = kinds kind
in_class (within ends kinds) kind last = kinds kind and ends kind last

pub record In (class : Class) (t : Tree) : Type 0 where  -- a tree may stand where the class is asked
  pub holds : in_class class (kind_of t) (last_kind 0 (kids_of t)) ≡ true

pub record OneTree (class : Class) (trees : Forest) : Type 0 where  -- one well-formed tree, of a class
  pub root : Tree
  pub is_root : trees ≡ one root
  pub root_well_formed : well_formed root ≡ true
  pub root_in_class : In class root

abbrev pub EverySettles : Type 1  -- each nonterminal comes to something, if the token stands at which it starts: it is done, or it fails
EverySettles = (N : Type 0) (policy : Policy N) (sheet : Sheet) (job : Job) (notes : N) → looked_at job ≤ length sheet.kinds → Comes policy sheet job notes

abbrev pub OneOutcome : Type 1  -- and to nothing else
OneOutcome =
    (N : Type 0) (policy : Policy N) (sheet : Sheet) (job : Job) (notes : N) (out out' : Out N) → Settles policy sheet job notes out → Settles policy sheet job notes out' → out ≡ out'

abbrev pub NeverStuck : Type 1  -- it never sticks, however many steps it may take from μ on
NeverStuck =
    (N : Type 0) (policy : Policy N) (sheet : Sheet) (job : Job) (notes : N) (steps : ℕ) → looked_at job ≤ length sheet.kinds → μ sheet job ≤ steps
    → read policy sheet steps job notes ≡ stuck → ⊥

abbrev pub PlentyIsEnough : Type 1  -- nor with as many as the definition allows
PlentyIsEnough =
    (N : Type 0) (policy : Policy N) (sheet : Sheet) (job : Job) (notes : N) → looked_at job ≤ length sheet.kinds → read policy sheet (plenty sheet) job notes ≡ stuck → ⊥

-- what is said of the reading of a list as a whole, as one Expression and as one pattern
abbrev pub OfReadings : (Sheet → Forest → List Record → List ℕ → Type 0) → Type 0
OfReadings P =
    ((sheet : Sheet) (trees : Forest) (records : List Record) (notes : List ℕ) → box_reading sheet ≡ whole trees records notes → P sheet trees records notes)
    × ((sheet : Sheet) (trees : Forest) (records : List Record) (notes : List ℕ) → box_pattern sheet ≡ whole trees records notes → P sheet trees records notes)

abbrev pub RowsFit : Type 0  -- rows never exceed tokens
RowsFit = OfReadings (λ sheet trees records notes. sizes trees ≤ length sheet.kinds)

abbrev pub RecordsFit : Type 0  -- records never exceed tokens
RecordsFit = OfReadings (λ sheet trees records notes. length records ≤ length sheet.kinds)

abbrev pub TreesFormed : Type 0  -- there is one tree, and it is well-formed: an Expression; a Binding with or without an initializer
TreesFormed =
    ((sheet : Sheet) (trees : Forest) (records : List Record) (notes : List ℕ) → box_reading sheet ≡ whole trees records notes → OneTree (of is_expression) trees)
    × ((sheet : Sheet) (trees : Forest) (records : List Record) (notes : List ℕ) → box_pattern sheet ≡ whole trees records notes → OneTree (of is_parameter) trees)

abbrev pub RowsLie : Type 0  -- every row lies where it was read, its mark inside it, its kids inside it one after the other
RowsLie = OfReadings (λ sheet trees records notes. Lie 0 (length sheet.kinds) trees)

abbrev pub NotesStay : Type 0  -- notes stay of length 2,048, each 0 or 1
NotesStay = OfReadings (λ sheet trees records notes. Fine notes)

abbrev pub RefusalsStand : Type 0  -- a refusal is one of 8 to 12, at a token of the list or at its end
RefusalsStand =
    ((sheet : Sheet) (cause : Cause) → box_reading sheet ≡ refused cause → Inside sheet cause) × ((sheet : Sheet) (cause : Cause) → box_pattern sheet ≡ refused cause → Inside sheet cause)

-- no place is abandoned twice: a reader that logs the places of abandoned heads reads the same, and in its log no place stands twice, exactly the noted
-- places stand in it, and they are as many as the reading's count
abbrev pub AbandonedOnce : Type 0
AbandonedOnce =
    ((sheet : Sheet) (trees : Forest) (records : List Record) (notes : List ℕ) → length sheet.kinds ≤ 2048 → box_reading sheet ≡ whole trees records notes
    → Logged sheet (expression 0) trees records notes)
    × ((sheet : Sheet) (trees : Forest) (records : List Record) (notes : List ℕ) → length sheet.kinds ≤ 2048 → box_pattern sheet ≡ whole trees records notes
    → Logged sheet (binding_element 0) trees records notes)
