-- From the contracts of the entries to what is seen: the words of one forest and of one list of records; demand 2 in the standard's own terms; one law for
-- vuolmaset_read and vuolmaset_pattern at once, by the job, and those of the other entries; the six ways of vuolmaset_convert; and the work for a list past the checks. Assumes nothing.
use Rattle.std.specs.Prelude.{if◌then◌else◌, Ok, Err}
use Prim.Native.Nat.{ℕ, ◌*◌, ◌+◌, ◌≤◌, ◌-◌}
use mathlib.Core.Path.{◌≡◌, refl, sym, ap, ◌∙◌}
use mathlib.Core.List.{List, [], ◌∷◌, ◌++◌, append-nil}
use native.Mathlib.Omega.{arith}
use lib.ListN.{length, take}
use mathlib.Core.Bool.{Bool, true, false, not}
use mathlib.Core.Logic.{◌↔◌}
use native.Mathlib.Nat.{add-zero}
use Rattle.rows.specs.Tree.{Forest, sizes, flats, Tree, one, size, flat, node, nil, cons}
use Rattle.rows.specs.Record.{Record, says, record_words}
use Rattle.rows.proofs.Flat.{length_flats, flats_injective, length_flat, some_row, well_formed_once}
use Rattle.grammar.specs.Lent.{padded, checks, Given, read_entry, pattern_entry, answered, checked, entry, Answers}
use Rattle.tokens.specs.Bool.{◌or◌, ◌is◌, ◌and◌}
use Rattle.tokens.specs.Cause.{number, place}
use Rattle.tokens.specs.declared.cause.Cause.{Cause}
use Rattle.tokens.specs.Check.{Checked}
use Rattle.lookahead.specs.Entry.{checked as tell, three_way_entry}
use Rattle.grammar.specs.Sheet.{Sheet}
use Rattle.tokens.specs.declared.cause.Answer.{Answer}
use Rattle.tokens.specs.declared.cause.Counts.{Counts}
use Rattle.grammar.specs.Job.{expression, binding_element, Job}
use Rattle.grammar.specs.Reading.{Whole, whole, plain, box_reading, box_pattern, refused, noted_places}
use Rattle.agreement.specs.Terms.{ReadAs, NoEarly}
use Rattle.agreement.proofs.Agreement.{agreement, pattern_agreement}
use Rattle.agreement.proofs.Answers.{Shows, entry_read, read_agrees, pattern_agrees}
use Rattle.ecma262.specs.Derives.{Nonterminal, Expression, BindingElement, Derived}
use Rattle.lookahead.specs.ThreeWay.{three_way}
use Rattle.rows.specs.Part.{subtree}
use Rattle.rows.specs.Handed.{Inside, chosen, Handed, own, empty}
use Rattle.conversion.specs.Conversion.{Outcome, turned, refused as not_turned, convert, Role, Change, refuse, keep, turn, is_array_or_object, Seen, seen, is_with, is_closed, as_simple, as_any, as_value, as_element, as_last_element, as_property, as_last_property, as_name, change, roles, over, both, convert_as, convert_kids}
use Rattle.conversion.specs.TargetRule.{Target}
use Rattle.conversion.specs.Entry.{Result, holds, Sized, done, fails, Within, Entry}
use Rattle.conversion.proofs.Once.{entry_once}
use Rattle.conversion.proofs.EntryRule.{no_error}
use Rattle.laws.specs.Promises.{Inside as Stands}
use Rattle.grammar.specs.Told.{number_of, first_of, second_of, third_of, Told, ToldThreeWay, ToldSubtree}
use Rattle.rows.specs.Row as row
use Rattle.rows.specs.Part.{WellFormed}
use Rattle.grammar.proofs.Checked.{each_fine, some_tokens, short_enough, check_numbers, three_way_numbers}
use Rattle.agreement.specs.Terms.{Counted, Ended, ended_done, ended_fail}
use Rattle.agreement.proofs.Steps.{Start, ListWork, ReadWork, list_work, read_work, checked_work}
use Rattle.exact.proofs.Sound.{Standard, clean_expression, clean_binding}
use Rattle.exact.proofs.Unambiguous.{clean_is_derived, clean_is_bound}
use Rattle.exact.specs.Terms as Terms
use Rattle.exact.specs.Terms.{Input, Output, TreeInput, sheet, Passes, comes_to, ByConvert, Shown, Clean, Refused, Answered, ThreeWayAnswered, three_way_checks, Unchanged, Converted, converted, wrong_size, no_tree, no_row, no_room, no_target, Bounded}

-- WORDS, AND THEN 0
-- the words before what follows them
take_words : (a b : List ℕ) → take (length a) (a ++ b) ≡ a
take_words [] b = refl
take_words (x ∷ a) b = ap (λ (l : List ℕ). x ∷ l) (take_words a b)

one_start : (a b c d : List ℕ) → length a ≡ length b → a ++ c ≡ b ++ d → a ≡ b
one_start a b c d n e = sym (take_words a c) ∙ ap (λ (l : List ℕ). take (length a) l) e ∙ ap (λ (k : ℕ). take k (b ++ d)) n ∙ take_words b d

one_padded : (a b : List ℕ) (size : ℕ) → length a ≡ length b → padded a size ≡ padded b size → a ≡ b
unfolding padded
one_padded a b size n e = one_start a b _ _ n e

pub one_forest : (ts us : Forest) (size : ℕ) → sizes ts ≡ sizes us → padded (flats ts) size ≡ padded (flats us) size → ts ≡ us
one_forest ts us size n e = flats_injective ts us (one_padded (flats ts) (flats us) size (omega (arith, length_flats ts, length_flats us)) e)

length_records : (rs : List Record) → length (record_words rs) ≡ 2 * length rs
unfolding record_words
length_records [] = refl
length_records (says number place ∷ rs) = omega (arith, length_records rs)

-- the words of records read back
records_of : List ℕ → List Record
records_of [] = []
records_of (number ∷ []) = []
records_of (number ∷ place ∷ words) = says number place ∷ records_of words

read_back : (rs : List Record) → records_of (record_words rs) ≡ rs
unfolding record_words records_of
read_back [] = refl
read_back (says number place ∷ rs) = ap (λ (l : List Record). says number place ∷ l) (read_back rs)

pub one_list : (rs ss : List Record) (size : ℕ) → length rs ≡ length ss → padded (record_words rs) size ≡ padded (record_words ss) size → rs ≡ ss
one_list rs ss size n e =
    sym (read_back rs) ∙ ap records_of (one_padded (record_words rs) (record_words ss) size (omega (arith, length_records rs, length_records ss)) e) ∙ read_back ss

-- DEMAND 2, OF THE ENTRIES. Past the checks: where an entry answers Read with no record, ECMA-262 derives the whole list, and the rows are those of its tree.
-- In a list without the early commit, what ECMA-262 derives an entry answers so, with those rows.
-- what the plain reader reads, whatever the notes after: it has none
plainly : {out : Whole (Unit {0})} {t : Tree} → ReadAs out (one t) [] → out ≡ whole (one t) [] tt
plainly r = r.is_whole

-- THE READER AND THE DERIVATIONS
-- In a list without the early commit, the box's reader reads the list clean as this tree exactly if the standard derives it so.
pub clean_reading : (sheet : Sheet) → NoEarly sheet → (t : Tree) → ReadAs (box_reading sheet) (one t) [] ↔ Derived sheet Expression 0 (length sheet.kinds) t
clean_reading sheet none t =
    (λ r. clean_is_derived.0 (plainly ((agreement sheet none (one t) []).0 r)), λ d. (agreement sheet none (one t) []).1 (record { after = tt; is_whole = clean_is_derived.1 d }))

-- The same of the pattern entry's reader and a BindingElement.
pub clean_pattern : (sheet : Sheet) → NoEarly sheet → (t : Tree) → ReadAs (box_pattern sheet) (one t) [] ↔ Derived sheet BindingElement 0 (length sheet.kinds) t
clean_pattern sheet none t =
    (λ r. clean_is_bound.0 (plainly ((pattern_agreement sheet none (one t) []).0 r)), λ d. (pattern_agreement sheet none (one t) []).1 (record { after = tt; is_whole = clean_is_bound.1 d }))

-- THE ENTRIES
-- what an entry gives shows a tree that the standard derives over the whole list, and no record
pub record ShowsDerived (x : Nonterminal) (sheet : Sheet) (given : Given) (rows records : List ℕ) : Type 0 where
  pub tree : Tree
  pub derived : Derived sheet x 0 (length sheet.kinds) tree
  pub shows : Shows given rows records (one tree) []

no_words : (l : List Record) → length l ≡ 0 → l ≡ []
no_words [] e = refl
no_words (r ∷ l) e = absurd (omega arith)

-- the records of an answer are those that it counts
counted : {given : Given} {rows records : List ℕ} {trees : Forest} {said : List Record} (counts : Counts) → given.answer ≡ Answer.Read counts → counts.records ≡ 0
    → Shows given rows records trees said → said ≡ []
counted {said = said} counts e z s = no_words said (let q = s.answer in let c : length said ≡ counts.records = cc in omega arith)

shows_derived : {x : Nonterminal} {sheet : Sheet} {given : Given} {rows records : List ℕ} {trees : Forest} {said : List Record} → said ≡ [] → Shows given rows records trees said
    → Standard sheet x trees → ShowsDerived x sheet given rows records
shows_derived q s d = record { tree = d.tree; derived = d.derived; shows = rw (q, d.is_tree) at s }

module _ (sheet : Sheet) (rows records : List ℕ) (fine : checks sheet rows records ≡ Ok tt) where
  -- with no exception: Read with no record is derived, and the rows are the tree's
  pub read_is_derived : (counts : Counts) → (read_entry sheet rows records).answer ≡ Answer.Read counts → counts.records ≡ 0 → ShowsDerived Expression sheet (read_entry sheet rows records) rows records
  read_is_derived counts e z =
      let r = entry_read (expression 0) sheet rows records (omega arith) fine counts e in
      let q = counted counts e z r.shows in
      shows_derived q r.shows (clean_expression plain sheet tt (r.plain_reads.is_whole ∙ ap (λ (l : List Record). whole r.trees l tt) q))

  pub pattern_is_derived : (counts : Counts) → (pattern_entry sheet rows records).answer ≡ Answer.Read counts → counts.records ≡ 0
      → ShowsDerived BindingElement sheet (pattern_entry sheet rows records) rows records
  pattern_is_derived counts e z =
      let r = entry_read (binding_element 0) sheet rows records (omega arith) fine counts e in
      let q = counted counts e z r.shows in
      shows_derived q r.shows (clean_binding plain sheet tt (r.plain_reads.is_whole ∙ ap (λ (l : List Record). whole r.trees l tt) q))

  -- without the early commit: what is derived is read, with no record, and the rows are the tree's
  pub derived_is_read : NoEarly sheet → (t : Tree) → Derived sheet Expression 0 (length sheet.kinds) t → Shows (read_entry sheet rows records) rows records (one t) []
  derived_is_read none t d = read_agrees sheet rows records fine none (one t) [] (record { after = tt; is_whole = clean_is_derived.1 d })

  pub derived_is_pattern : NoEarly sheet → (t : Tree) → Derived sheet BindingElement 0 (length sheet.kinds) t → Shows (pattern_entry sheet rows records) rows records (one t) []
  derived_is_pattern none t d = pattern_agrees sheet rows records fine none (one t) [] (record { after = tt; is_whole = clean_is_bound.1 d })

-- ONE OUTPUT
-- six equations make two outputs one
same_output : {x y : Output} → x.number ≡ y.number → x.first ≡ y.first → x.second ≡ y.second → x.third ≡ y.third → x.rows ≡ y.rows → x.records ≡ y.records → x ≡ y
same_output n f s t r q j = record { number = n j; first = f j; second = s j; third = t j; rows = r j; records = q j }

-- the answer and the words of the buffers are all that is seen
pub told_once : {x y : Output} {a b : Answer} → Told a x.first x.second x.third x.number → Told b y.first y.second y.third y.number → a ≡ b → x.rows ≡ y.rows
    → x.records ≡ y.records → x ≡ y
told_once g h e r q =
    same_output (g.number ∙ ap number_of e ∙ sym h.number) (g.first_is ∙ ap first_of e ∙ sym h.first_is) (g.second_is ∙ ap second_of e ∙ sym h.second_is)
    (g.third_is ∙ ap third_of e ∙ sym h.third_is) r q

-- READING: both entries, by the job
pub record By (job : Job) (i : Input) (x : Output) : Type 0 where
  pub answer : Answer
  pub answers : Answers (entry job (sheet i) i.rows i.records) x.rows x.records answer
  pub told : Told answer x.first x.second x.third x.number

pub by_once : {job : Job} {i : Input} {x y : Output} → By job i x → By job i y → x ≡ y
by_once g h =
    told_once g.told h.told (g.answers.answer ∙ sym h.answers.answer) (g.answers.rows ∙ sym h.answers.rows) (g.answers.records ∙ sym h.answers.records)

-- every refusal has a number from 1 on
pub some_number : (cause : Cause) → 1 ≤ number cause
some_number (Cause.Length p) = omega arith
some_number (Cause.FlagLength p) = omega arith
some_number (Cause.RowRoom p) = omega arith
some_number (Cause.RecordRoom p) = omega arith
some_number (Cause.Flag p) = omega arith
some_number (Cause.Kind p) = omega arith
some_number (Cause.Nesting p) = omega arith
some_number (Cause.Unexpected p) = omega arith
some_number (Cause.Target p) = omega arith
some_number (Cause.Spread p) = omega arith
some_number (Cause.RestName p) = omega arith
some_number (Cause.RestLast p) = omega arith
some_number (Cause.Tree p) = omega arith
some_number (Cause.Outside p) = omega arith

refusal : {i : Input} {x : Output} {a : Answer} (cause : Cause) (low high : ℕ) → a ≡ Answer.Refused cause → Told a x.first x.second x.third x.number → low ≤ number cause → number cause ≤ high
    → place cause ≤ length i.kinds → Refused cause low high i x
refusal cause low high e h l m p =
    let n = h.number ∙ ap number_of e in
    let f = h.first_is ∙ ap first_of e in
    record { number = n; low_enough = omega arith; high_enough = omega arith; first = f; inside = omega arith; second = h.second_is ∙ ap second_of e; third = h.third_is ∙ ap third_of e }

-- 0 is not the number of a refusal
pub not_refused : {cause : Cause} {low high : ℕ} {i : Input} {x : Output} → 1 ≤ low → x.number ≡ 0 → Refused cause low high i x → ⊥
not_refused l z r = omega (arith, r.low_enough)

-- what a job's refusals and counts are bounded by
pub record Bounds (job : Job) (i : Input) : Type 0 where
  pub stands : (cause : Cause) → comes_to job i ≡ refused cause → Stands (sheet i) cause
  pub rows_fit : (trees : Forest) (said : List Record) (notes : List ℕ) → comes_to job i ≡ whole trees said notes → sizes trees ≤ length i.kinds
  pub records_fit : (trees : Forest) (said : List Record) (notes : List ℕ) → comes_to job i ≡ whole trees said notes → length said ≤ length i.kinds

module _ {job : Job} {i : Input} {x : Output} where
  by_ways : Bounds job i → (c : Checked) (w : Whole (List ℕ)) → checks (sheet i) i.rows i.records ≡ c → comes_to job i ≡ w → (a : Answer)
      → Answers (checked i.rows i.records c (answered i.rows i.records w)) x.rows x.records a → Told a x.first x.second x.third x.number → Answered job i x
  unfolding checked answered
  by_ways b (Err cause) w e f a g h =
      let n = check_numbers (sheet i) i.rows i.records cause e in
      Terms.checked cause e (refusal cause 1 7 g.answer h n.from_one n.to_high n.there) g.rows g.records
  by_ways b (Ok fine) (refused cause) e f a g h =
      let n = b.stands cause f in
      Terms.unread e cause f (refusal cause 8 12 g.answer h n.from_eight n.to_twelve n.there) g.rows g.records
  by_ways b (Ok fine) (whole trees said notes) e f a g h =
      let o = h.first_is ∙ ap first_of g.answer in
      let p = h.second_is ∙ ap second_of g.answer in
      Terms.read e trees said notes f (record { number = h.number ∙ ap number_of g.answer; first = o; second = p; rows = g.rows; records = g.records })
      (omega (arith, b.rows_fit trees said notes f)) (omega (arith, b.records_fit trees said notes f)) (h.third_is ∙ ap third_of g.answer)

  -- every output is one of the three
  pub by_answered : Bounds job i → By job i x → Answered job i x
  unfolding entry
  by_answered b g = by_ways b (checks (sheet i) i.rows i.records) (comes_to job i) refl refl g.answer g.answers g.told

  -- what an entry shows is seen
  pub by_shown : By job i x → {trees : Forest} {said : List Record} → Shows (entry job (sheet i) i.rows i.records) i.rows i.records trees said → Shown i x trees said
  by_shown g s =
      let e = g.answers.answer ∙ s.answer in
      record {
        number = g.told.number ∙ ap number_of e;
        first = g.told.first_is ∙ ap first_of e;
        second = g.told.second_is ∙ ap second_of e;
        rows = g.answers.rows ∙ s.rows_hold;
        records = g.answers.records ∙ s.records_hold;
      }

  pub passed : Answered job i x → x.number ≡ 0 → Passes i
  passed (Terms.read p _ _ _ _ _ _ _ _) z = p
  passed (Terms.checked cause e r _ _) z = absurd (not_refused (omega arith) z r)
  passed (Terms.unread p cause e r _ _) z = p

  -- what is seen as read, the box's reader reads
  pub shown_read : Answered job i x → {trees : Forest} {said : List Record} → Shown i x trees said → ReadAs (comes_to job i) trees said
  shown_read (Terms.read p ts rs notes e s _ _ _) {trees} {said} t =
      let f : ts ≡ trees = one_forest ts trees (length i.rows) (sym s.first ∙ t.first) (sym s.rows ∙ t.rows) in
      let g : rs ≡ said = one_list rs said (length i.records) (sym s.second ∙ t.second) (sym s.records ∙ t.records) in
      record { after = notes; is_whole = rw (f, g) at e }
  shown_read (Terms.checked cause e r _ _) t = absurd (not_refused (omega arith) t.number r)
  shown_read (Terms.unread p cause e r _ _) t = absurd (not_refused (omega arith) t.number r)

  -- 0 and no record: Read, with such counts
  pub by_clean : By job i x → x.number ≡ 0 → x.second ≡ 0 → (counts : Counts) × ((entry job (sheet i) i.rows i.records).answer ≡ Answer.Read counts) × (counts.records ≡ 0)
  by_clean g z o = go g.answer g.answers.answer g.told
    where
      go : (a : Answer) → a ≡ (entry job (sheet i) i.rows i.records).answer → Told a x.first x.second x.third x.number
          → (counts : Counts) × ((entry job (sheet i) i.rows i.records).answer ≡ Answer.Read counts) × (counts.records ≡ 0)
      go (Answer.Read counts) e h = (counts, sym e, sym h.second_is ∙ o)
      go (Answer.Refused cause) e h = absurd (omega (arith, h.number, some_number cause))

-- clean with a tree is Read as this one tree with no record
pub clean_shown : {i : Input} {x : Output} {t : Tree} → Clean i x t → Shown i x (one t) []
unfolding sizes flats record_words padded
clean_shown {i} {t = t} c =
    let n : length i.records - 0 ≡ length i.records = omega arith in
    record {
      number = c.number;
      first = c.first ∙ sym (add-zero (size t));
      second = c.no_record;
      rows = rw (append-nil (flat t)) c.rows;
      records = rw n c.records;
    }

pub shown_clean : {i : Input} {x : Output} {t : Tree} → Shown i x (one t) [] → Clean i x t
unfolding sizes flats record_words padded
shown_clean {i} {t = t} s =
    let n : length i.records - 0 ≡ length i.records = omega arith in
    record {
      number = s.number;
      first = s.first ∙ add-zero (size t);
      no_record = s.second;
      rows = rw (append-nil (flat t)) at s.rows;
      records = rw n at s.records;
    }

-- CONVERSION
module _ {i : TreeInput} {x : Output} (g : ByConvert i x) (inside : Inside i.tree i.row) (room : 2 * size (chosen inside) ≤ length i.records) where
  sized : Sized i.tree
  sized = let n = ap length inside.whole.text ∙ length_flat inside.whole.tree in let s = some_row inside.whole.tree in let f = inside.whole.few in record { some = omega arith; few = omega arith }

  answer_is : g.answer ≡ (done i.tree i.records i.row (chosen inside) (convert (chosen inside))).answer
  answer_is = ap (λ (r : Result). r.answer) (entry_once g.answers.is (holds sized (holds inside.whole (holds inside.has_row (holds room refl)))))

  clean_answer : x.number ≡ 0 → x.second ≡ 0 → (out : Outcome Tree) → g.answer ≡ (done i.tree i.records i.row (chosen inside) out).answer
      → g.answer ≡ Answer.Read (record { rows = size (chosen inside); records = 0; abandoned = 0 })
  unfolding done
  clean_answer z o (not_turned cause) e = absurd (omega (arith, g.told.number ∙ ap number_of e, some_number cause))
  clean_answer z o (turned t said) e =
      let n : length said ≡ 0 = sym (ap second_of e) ∙ sym g.told.second_is ∙ o in
      e ∙ ap (λ (k : ℕ). Answer.Read (record { rows = size (chosen inside); records = k; abandoned = 0 })) n

  -- 0 and no record exactly if the rule holds of the subtree
  pub clean_convert : ((x.number ≡ 0) × (x.second ≡ 0)) ↔ Target (chosen inside)
  clean_convert = (
    (λ c. (no_error g.answers inside room).0 (clean_answer c.0 c.1 (convert (chosen inside)) answer_is)),
    (λ d. let e = (no_error g.answers inside room).1 d in (g.told.number ∙ ap number_of e, g.told.second_is ∙ ap second_of e)),
  )

-- THE SUBTREE
pub by_subtree : {tree : List ℕ} {row x : ℕ} → ToldSubtree tree row x → ((i : Inside tree row) → x ≡ 6 * size (chosen i)) × ((Inside tree row → ⊥) → x ≡ 0)
by_subtree {tree} {row} {x} g = go g.handed g.words
  where
    go : {part : List ℕ} → Handed tree row part → x ≡ length part → ((i : Inside tree row) → x ≡ 6 * size (chosen i)) × ((Inside tree row → ⊥) → x ≡ 0)
    go (own i a b) e = (
      λ j. e ∙ ap length b ∙ length_flat (chosen i) ∙ ap (λ (t : Tree). 6 * size (subtree t row)) (well_formed_once i.whole j.whole),
      λ f. absurd (f i),
    )
    go (empty f b) e = (λ i. absurd (f i), λ _. e ∙ ap length b)

-- THE THREE-WAY ENTRY
module _ (kinds flags : List ℕ) (is_ts is_jsx : Bool) (at : ℕ) {told number' : ℕ} where
  by_check : (c : Checked) → three_way_checks kinds flags at ≡ c
      → ToldThreeWay (tell c (Ok (three_way kinds flags is_ts is_jsx at))) told number' → ThreeWayAnswered kinds flags is_ts is_jsx at told number'
  unfolding tell
  by_check (Ok fine) e g = Terms.three_told e g.number g.told_is
  by_check (Err cause) e g =
      let n = three_way_numbers kinds flags at cause e in
      Terms.three_refused cause e g.number n.from_one n.to_high g.told_is n.there

  pub by_three_way : ToldThreeWay (three_way_entry kinds flags is_ts is_jsx at) told number' → ThreeWayAnswered kinds flags is_ts is_jsx at told number'
  unfolding three_way_entry
  by_three_way g = by_check _ refl g

-- WHAT vuolmaset_convert GIVES, by its six ways; a conversion is refused by 9 or 10
-- 9 or 10
record Nine (cause : Cause) : Type 0 where
  nine : 9 ≤ number cause
  ten : number cause ≤ 10

record Falls {A : Type 0} (out : Outcome A) : Type 0 where
  falls : (cause : Cause) → out ≡ Outcome.refused cause → Nine cause

record Refuses (c : Change) : Type 0 where
  refuses : (cause : Cause) → c ≡ refuse cause → Nine cause

refuses_at : {cause : Cause} → Nine cause → Refuses (refuse cause)
refuses_at {cause} n = record { refuses = λ other e. let q : cause ≡ other = cc in rw q at n }

keeps : {kind : ℕ} {records : List Record} → Refuses (keep kind records)
keeps = record { refuses = λ other e. let z : ◌≡◌ {A = ℕ} 0 1 = cc in absurd (omega arith) }

turns : {kind : ℕ} {before after : List Record} {kids : ℕ → Role} → Refuses (turn kind before kids after)
turns = record { refuses = λ other e. let z : ◌≡◌ {A = ℕ} 0 1 = cc in absurd (omega arith) }

either : (t : Bool) {a b : Change} → Refuses a → Refuses b → Refuses (if t then a else b)
either true p q = p
either false p q = q

no_such : (p : ℕ) → Refuses (refuse (Cause.Target p))
no_such p = refuses_at (record { nine = omega arith; ten = omega arith })

not_last : (p : ℕ) → Refuses (refuse (Cause.Spread p))
not_last p = refuses_at (record { nine = omega arith; ten = omega arith })

simple_falls : (r : Seen) → Refuses (as_simple r)
unfolding as_simple
simple_falls r =
    either (r.kind is row.Identifier) keeps
    (either (r.kind is row.Member) keeps
    (either (r.kind is row.Index) keeps (either (is_with r row.Paren 1 and not (is_array_or_object r.last)) turns (no_such r.first))))

any_falls : (r : Seen) → Refuses (as_any r)
unfolding as_any
any_falls r =
    either (r.kind is row.Array) turns
    (either (is_closed r row.ArrayRestComma) turns (either (r.kind is row.Object) turns (either (is_closed r row.ObjectRestComma) turns (simple_falls r))))

value_falls : (r : Seen) → Refuses (as_value r)
unfolding as_value
value_falls r = either (r.kind is row.Assign) keeps (either (r.kind is row.CompoundAssign) keeps (any_falls r))

element_falls : (r : Seen) → Refuses (as_element r)
unfolding as_element
element_falls r = either (r.kind is row.Hole) keeps (either (r.kind is row.Spread) (not_last r.first) (value_falls r))

property_falls : (r : Seen) → Refuses (as_property r)
unfolding as_property
property_falls r =
    either (is_with r row.Shorthand 1) turns
    (either (is_with r row.ShorthandInit 2) turns (either (is_with r row.Property 2) turns (either (r.kind is row.Spread) (not_last r.first) (no_such r.first))))

change_falls : (role : Role) (r : Seen) → Refuses (change role r)
unfolding change as_last_element as_last_property as_name
change_falls Role.any r = any_falls r
change_falls Role.simple r = simple_falls r
change_falls Role.element r = element_falls r
change_falls (Role.last_element comma) r = either (is_with r row.Spread 1) turns (element_falls r)
change_falls Role.property r = property_falls r
change_falls (Role.last_property comma) r = either (is_with r row.Spread 1) turns (property_falls r)
change_falls Role.value r = value_falls r
change_falls Role.name r = either (r.kind is row.Identifier) keeps (no_such r.first)
change_falls Role.same r = keeps

turned_falls : {A : Type 0} (a : A) (records : List Record) → Falls (turned a records)
turned_falls a records = record { falls = λ cause e. let z : ◌≡◌ {A = ℕ} 0 1 = cc in absurd (omega arith) }

over_falls : (c : Change) (t : Tree) (kids : Outcome Forest) → Refuses c → Falls kids → Falls (over c t kids)
unfolding over
over_falls (refuse cause) t kids p q = record { falls = λ other e. let s : cause ≡ other = cc in rw s at (p.refuses cause refl) }
over_falls (keep kind' records) (node kind mark first end ts) kids p q = turned_falls _ _
over_falls (turn kind' before each after) (node kind mark first end ts) (turned kids records) p q = turned_falls _ _
over_falls (turn kind' before each after) (node kind mark first end ts) (Outcome.refused cause) p q = record { falls = λ other e. let s : cause ≡ other = cc in rw s at (q.falls cause refl) }

both_falls : (x : Outcome Tree) (y : Outcome Forest) → Falls x → Falls y → Falls (both x y)
unfolding both
both_falls (Outcome.refused cause) y p q = record { falls = λ other e. let s : cause ≡ other = cc in rw s at (p.falls cause refl) }
both_falls (turned t records) (Outcome.refused cause) p q = record { falls = λ other e. let s : cause ≡ other = cc in rw s at (q.falls cause refl) }
both_falls (turned t records) (turned ts more) p q = turned_falls _ _

mutual
  unfolding convert_as convert_kids

  convert_falls : (t : Tree) (role : Role) → Falls (convert_as t role)
  convert_falls (node kind mark first end kids) role =
      over_falls (change role (seen (node kind mark first end kids))) (node kind mark first end kids) _ (change_falls role (seen (node kind mark first end kids)))
      (kids_fall kids (roles (change role (seen (node kind mark first end kids)))))

  kids_fall : (ts : Forest) (each : ℕ → Role) → Falls (convert_kids ts each)
  kids_fall nil each = turned_falls nil []
  kids_fall (cons t ts) each = both_falls (convert_as t _) (convert_kids ts each) (convert_falls t _) (kids_fall ts each)

module _ {i : TreeInput} {x : Output} (g : ByConvert i x) where
  unchanged : (cause : Cause) → g.answer ≡ Answer.Refused cause → x.rows ≡ i.tree → x.records ≡ i.records → Unchanged cause i x
  unchanged cause e r q =
      record {
        number = g.told.number ∙ ap number_of e;
        first = g.told.first_is ∙ ap first_of e;
        second = g.told.second_is ∙ ap second_of e;
        third = g.told.third_is ∙ ap third_of e;
        rows = r;
        records = q;
      }

  by_outcome : (inside : Inside i.tree i.row) → 2 * size (chosen inside) ≤ length i.records → (out : Outcome Tree) → convert (chosen inside) ≡ out
      → record { answer = g.answer; words = x.rows; records = x.records } ≡ done i.tree i.records i.row (chosen inside) out → Converted i x
  unfolding done
  by_outcome inside room (Outcome.refused cause) c e =
      let n = (convert_falls (chosen inside) Role.any).falls cause c in
      no_target inside room cause c n.nine n.ten (unchanged cause (ap (λ (r : Result). r.answer) e) (ap (λ (r : Result). r.words) e) (ap (λ (r : Result). r.records) e))
  by_outcome inside room (turned t said) c e =
      let a = ap (λ (r : Result). r.answer) e in
      converted inside room t said c (g.told.number ∙ ap number_of a) (g.told.first_is ∙ ap first_of a) (g.told.second_is ∙ ap second_of a) (g.told.third_is ∙ ap third_of a)
      (ap (λ (r : Result). r.words) e) (ap (λ (r : Result). r.records) e)

  refused_by : (cause : Cause) → ◌≡◌ {A = Result} (record { answer = g.answer; words = x.rows; records = x.records }) (record { answer = Answer.Refused cause; words = i.tree; records = i.records })
      → Unchanged cause i x
  refused_by cause e = unchanged cause (ap (λ (r : Result). r.answer) e) (ap (λ (r : Result). r.words) e) (ap (λ (r : Result). r.records) e)

  within : (formed : WellFormed i.tree) → Within i.tree i.records i.row formed.tree (record { answer = g.answer; words = x.rows; records = x.records }) → Converted i x
  within formed (fails n e) = no_row formed n (refused_by (Cause.Outside 0) e)
  within formed (holds r (fails n e)) = no_room (record { whole = formed; has_row = r }) n (refused_by (Cause.RecordRoom 0) e)
  within formed (holds r (holds l e)) = by_outcome (record { whole = formed; has_row = r }) l _ refl e

  entered : Entry i.tree i.records i.row (record { answer = g.answer; words = x.rows; records = x.records }) → Converted i x
  entered (fails n e) = wrong_size n (refused_by (Cause.Length 0) e)
  entered (holds s (fails n e)) = no_tree s n (refused_by (Cause.Tree 0) e)
  entered (holds s (holds w r)) = within w r

  pub by_converted : Converted i x
  by_converted = entered g.answers.is

-- WORK
-- the counting reader ends in one way, so with the notes that the reader has
same_notes : {sheet : Sheet} {job : Job} {after : Counted (List ℕ)} {trees : Forest} {notes : List ℕ} → Ended sheet job after → ReadWork sheet job trees notes → after.notes ≡ notes
same_notes {after = after} (ended_done end ts said c r) w = let v : after ≡ w.after = cc w.counted in ap (λ (m : Counted (List ℕ)). m.notes) v ∙ w.same_notes
same_notes (ended_fail cause c r) w = let z : ◌≡◌ {A = ℕ} 0 1 = cc w.counted in absurd (omega arith)

module _ {job : Job} {i : Input} {x : Output} (a : Answered job i x) (l : ListWork (sheet i) job)
    (read : (trees : Forest) (said : List Record) (notes : List ℕ) → comes_to job i ≡ whole trees said notes → ReadWork (sheet i) job trees notes) where
  told_places : x.number ≡ 0 → Answered job i x → x.third ≡ noted_places l.after.notes
  told_places z (Terms.read _ trees said notes e _ _ _ t) = t ∙ sym (ap noted_places (same_notes l.ended (read trees said notes e)))
  told_places z (Terms.checked cause e r _ _) = absurd (not_refused (omega arith) z r)
  told_places z (Terms.unread _ cause e r _ _) = absurd (not_refused (omega arith) z r)

  bounded : l.after.steps ≤ 4485 * length i.kinds → Bounded job i x
  bounded most =
      record {
        after = l.after;
        ended = l.ended;
        by_tokens = most;
        by_nesting = l.work.by_nesting;
        by_abandoned = l.work.by_abandoned;
        abandoned_told = λ z. told_places z a;
      }

pub work_bounded : {job : Job} {i : Input} {x : Output} → Start job → Answered job i x → Passes i → Bounded job i x
work_bounded {job} {i} start a p =
    let fine = each_fine (sheet i) i.rows i.records p in
    let some = some_tokens i.kinds fine.length_fine in
    let few = short_enough i.kinds fine.length_fine in
    let l = list_work (sheet i) some few job start in
    bounded a l (λ trees said notes e. read_work (sheet i) some few job start e)
    (checked_work (sheet i) some few fine.nesting_fine l.after l.work.by_nesting)
