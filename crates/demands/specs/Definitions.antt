-- What is proved of the definitions alone, and what is computed.
use Rattle.std.specs.Prelude.{◌≤◌, ◌+◌, ◌≡◌, ◌∷◌, ◌↔◌}
use Rattle.rows.specs.Base.{ℕ, List, [], ◌is◌, is_name, is_word, is_literal, Sheet, kind_at, flag_at, Forest, Tree, length, Record, Bool, false}
use Rattle.tokens.specs.Kind.{Question2, Star2, Ident, Async, Modifier, LParen, Dot3}
use Rattle.operators.specs.Precedence.{expression_level}
use Rattle.ecma262.specs.Derives.{one_of, identifiers, identifier_names, literals, literal_property_names, update_operators, unary_operators, assignment_operators, TierExpression, LeftToRight, Derives, Nonterminal, Derived, Expression, BindingElement}
use Rattle.exact.specs.{Terminals.Line, Terminals.LineOf, Terminals.is_compound, Terminals.is_key, Terminals.is_prefix, Terminals.is_update, Terms.In, Terms.Own}
use Rattle.conversion.specs.{Conversion.turned, Conversion.Role, Conversion.convert_as, Conversion.convert, TargetRule.Simple, TargetRule.Target}
use Rattle.grammar.specs.Reading.{box_reading, plain_reading, box_pattern, plain_pattern}
use Rattle.agreement.specs.Terms.{ReadAs, NoEarly}
use Rattle.lookahead.specs.{declared.Tristate.Tristate, ThreeWay.three_way, Cases.Found, Cases.MaybeCase, Cases.TrueCase}
use Rattle.laws.specs.Promises.{AbandonedOnce, EverySettles, NeverStuck, NotesStay, OneOutcome, PlentyIsEnough, RecordsFit, RefusalsStand, RowsFit, RowsLie, TreesFormed}
use Rattle.exact.proofs.Terminals as terminals
use Rattle.exact.proofs.Targets as targets
use Rattle.exact.proofs.Unambiguous as unambiguous
use Rattle.conversion.proofs.RuleHolds as rule
use Rattle.agreement.proofs.Agreement as agreed
use Rattle.lookahead.proofs.Laws as tristate
use Rattle.laws.proofs.Promises as promised
use Rattle.laws.proofs.Sheets as sheets
use Rattle.exact.proofs.Examples as claims
use Rattle.conversion.proofs.NotJudgedAgain as again
use Rattle.exact.proofs.GivenWhenRead as given
use Rattle.agreement.proofs.Exception as exception

-- The standard's grammar (ecma262/specs/Derives.antt): its terminals are the reader's classes, its levels the table's; it has one tree a list; its targets.
pub names : (k : ℕ) → one_of identifiers k ≡ is_name k
names = terminals.names

pub words : (k : ℕ) → one_of identifier_names k ≡ is_word k
words = terminals.words

pub literal_tokens : (k : ℕ) → one_of literals k ≡ is_literal k
literal_tokens = terminals.literal_tokens

pub keys : (k : ℕ) → one_of literal_property_names k ≡ is_key k
keys = terminals.keys

pub unary : (k : ℕ) → one_of unary_operators k ≡ is_prefix k
unary = terminals.unary

pub updates : (k : ℕ) → one_of update_operators k ≡ is_update k
updates = terminals.updates

pub compounds : (k : ℕ) → one_of assignment_operators k ≡ is_compound k
compounds = terminals.compounds

pub line : {x y row : ℕ} {operators : List ℕ} → LeftToRight (TierExpression x) operators (TierExpression y) row → Line x operators y row
line = terminals.line

pub line_of : (l : ℕ) → 2 ≤ l → l ≤ 11 → LineOf l
line_of = terminals.line_of

-- 13.6 and 13.13: `**` and `??` are alone on their levels
pub power_only : (k : ℕ) → one_of (Star2 ∷ []) k ≡ expression_level k is 12
power_only = terminals.power_only

pub coalesce_only : (k : ℕ) → one_of (Question2 ∷ []) k ≡ expression_level k is 1
coalesce_only = terminals.coalesce_only

pub target_rows : {s : Sheet} {x : Nonterminal} {i j : ℕ} {t u : Tree} → Derived s x i j t → In u t → Own s u
target_rows = targets.target_rows

-- two derivations of an Expression over the same list have the same tree
pub one_expression : {s : Sheet} {ts us : Forest} → Derives s Expression 0 (length s.kinds) ts → Derives s Expression 0 (length s.kinds) us → ts ≡ us
one_expression = unambiguous.one_expression

-- and so have two derivations of a BindingElement
pub one_binding : {s : Sheet} {ts us : Forest} → Derives s BindingElement 0 (length s.kinds) ts → Derives s BindingElement 0 (length s.kinds) us → ts ≡ us
one_binding = unambiguous.one_binding

-- Conversion and the target rule (RULES C12, C13). Any target: converted with neither refusal nor record, exactly if the rule holds.
pub target_rule : (t : Tree) → ((t' : Tree) × (convert t ≡ turned t' [])) ↔ Target t
target_rule = rule.target_rule

-- A simple target likewise.
pub simple_rule : (t : Tree) → ((t' : Tree) × (convert_as t Role.simple ≡ turned t' [])) ↔ Simple t
simple_rule = rule.simple_rule

-- The box's reader and the plain one agree: demand 3 of the definition. `NoEarly sheet` (agreement/specs/Terms.antt) says that nowhere stand Async, `(` with no line break
-- before it, `...` and kind 1. Nothing else is asked of a list, not even the checks. Assumes nothing.
-- Without the early commit, the box's reader reads a list exactly if the plain one does, as the same trees with the same records.
pub agreement : (sheet : Sheet) → NoEarly sheet → (trees : Forest) (records : List Record)
    → ReadAs (box_reading sheet) trees records ↔ ReadAs (plain_reading sheet) trees records
agreement = agreed.agreement

-- The same of the pattern entry.
pub pattern_agreement : (sheet : Sheet) → NoEarly sheet → (trees : Forest) (records : List Record)
    → ReadAs (box_pattern sheet) trees records ↔ ReadAs (plain_pattern sheet) trees records
pattern_agreement = agreed.pattern_agreement

-- With no exception: where the box's reader reads, the plain one reads the same.
pub plain_reads_too : (sheet : Sheet) (trees : Forest) (records : List Record) → ReadAs (box_reading sheet) trees records → ReadAs (plain_reading sheet) trees records
plain_reads_too = agreed.plain_reads_too

-- The same of the pattern entry.
pub plain_pattern_reads_too : (sheet : Sheet) (trees : Forest) (records : List Record) → ReadAs (box_pattern sheet) trees records → ReadAs (plain_pattern sheet) trees records
plain_pattern_reads_too = agreed.plain_pattern_reads_too

-- What the three-way answer says of the next tokens (RULES L), in the words of lookahead/specs/Cases.antt.
-- True: one of the six cases, at the place or right after an Async there
pub true_case : (kinds flags : List ℕ) (at : ℕ) → three_way kinds flags false false at ≡ Tristate.True → Found kinds flags at (TrueCase kinds)
true_case = tristate.true_case

pub true_told : (kinds flags : List ℕ) (is_ts is_jsx : Bool) (at : ℕ) → Found kinds flags at (TrueCase kinds) → three_way kinds flags is_ts is_jsx at ≡ Tristate.True
true_told = tristate.true_told

-- Maybe: one of the seven cases, at the place or right after an Async there
pub maybe_case : (kinds flags : List ℕ) (at : ℕ) → three_way kinds flags false false at ≡ Tristate.Maybe → Found kinds flags at (MaybeCase kinds)
maybe_case = tristate.maybe_case

pub maybe_told : (kinds flags : List ℕ) (is_ts : Bool) (at : ℕ) → Found kinds flags at (MaybeCase kinds) → three_way kinds flags is_ts false at ≡ Tristate.Maybe
maybe_told = tristate.maybe_told

-- The early commit: Async, `(` with no break before it, `...` and a plain name are True with any flags, though the standard has a call there.
pub early_commit : (kinds flags : List ℕ) (is_ts is_jsx : Bool) (at : ℕ) → kind_at kinds at ≡ Async → (flag_at flags (at + 1) ≡ 1 → ⊥)
    → kind_at kinds (at + 1) ≡ LParen → kind_at kinds (at + 2) ≡ Dot3 → kind_at kinds (at + 3) ≡ Ident
    → three_way kinds flags is_ts is_jsx at ≡ Tristate.True
early_commit = tristate.early_commit

-- any other name there is Maybe: kinds 2 to 5
pub no_early_commit : (kinds flags : List ℕ) (is_ts is_jsx : Bool) (at : ℕ) → kind_at kinds at ≡ Async → (flag_at flags (at + 1) ≡ 1 → ⊥)
    → kind_at kinds (at + 1) ≡ LParen → kind_at kinds (at + 2) ≡ Dot3 → Async ≤ kind_at kinds (at + 3) → kind_at kinds (at + 3) ≤ Modifier
    → three_way kinds flags is_ts is_jsx at ≡ Tristate.Maybe
no_early_commit = tristate.no_early_commit

-- The promises of the definition of a reading (RULES R6, R7, A8 to A12, E10), in the words of laws/specs/Promises.antt.
pub every_settles : EverySettles
every_settles = promised.every_settles

pub one_outcome : OneOutcome
one_outcome = promised.one_outcome

pub never_stuck : NeverStuck
never_stuck = promised.never_stuck

pub plenty_is_enough : PlentyIsEnough
plenty_is_enough = promised.plenty_is_enough

pub rows_fit : RowsFit
rows_fit = promised.rows_fit

pub records_fit : RecordsFit
records_fit = promised.records_fit

pub trees_formed : TreesFormed
trees_formed = promised.trees_formed

pub rows_lie : RowsLie
rows_lie = promised.rows_lie

pub notes_stay : NotesStay
notes_stay = promised.notes_stay

pub refusals_stand : RefusalsStand
refusals_stand = promised.refusals_stand

pub abandoned_once : AbandonedOnce
abandoned_once = promised.abandoned_once

-- Worked examples, each computed. The tables stand beside the computations: P1 to P10 and G1 to G7 of docs/RULES.md in laws/proofs/Sheets.antt and, in the standard's terms,
-- in exact/proofs/Examples.antt; the four trees of C13 and their readings in conversion/proofs/NotJudgedAgain.antt and exact/proofs/GivenWhenRead.antt; the excepted list in
-- agreement/proofs/Exception.antt. Each sheet is read to the last word of the tree and the records
pub sheets_hold : sheets.All sheets.Holds sheets.sheets
sheets_hold = sheets.sheets_hold

-- the standard derives some of them with their trees, and the others not
pub claims_hold : claims.All claims.claims
claims_hold = claims.claims_hold

-- four trees that are targets by the rule and convert with no record, though the standard has no such target
pub not_judged_again : again.NotJudgedAgain
not_judged_again = again.not_judged_again

-- the record was given when each of the four was read
pub given_when_read : given.GivenWhenRead
given_when_read = given.given_when_read

-- where the box's reader and the plain one differ, and lists near it where they do not
pub differs : exception.Differs
differs = exception.differs
