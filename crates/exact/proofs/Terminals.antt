-- The standard's terminals and the reader's classes of tokens are the same: names, words, literals, keys and operators, and the levels of the table of operators.
-- The statements: `names`, `words`, `literal_tokens`, `keys`, `unary`, `updates`, `compounds`, each for any number; `line` and `line_of`: the operators of each
-- line of 13.7 to 13.13 are just the tokens of its level, and each level has its line; `power_only`, `coalesce_only` the same of `**` and `??`. Assumes nothing.
use Rattle.std.specs.Prelude.{if◌then◌else◌}
use Prim.Native.Nat.{ℕ, zero, suc, ◌+◌, ◌≤◌, ◌<◌}
use mathlib.Core.Path.{◌≡◌, refl, sym, ◌∙◌}
use mathlib.Core.Bool.{Bool, true, false}
use mathlib.Core.List.{List, [], ◌∷◌}
use native.Mathlib.Omega.{arith}
use native.Mathlib.Decide.{ℕ_discrete}
use lib.ListN.{length, get_or}
use lib.Dec.{leb}
use borrow.Author.Tests.{eqb-true, ne_eqb, leb-true, lt-leb, eq-eqb, le-leb}
use Rattle.tokens.specs.Bool.{◌is◌, ◌or◌, between, ◌and◌}
use Rattle.tokens.specs.Kind.{As, Satisfies, Question2, Pipe2, Amp2, Star2}
use Rattle.operators.specs.Precedence.{tiers, among, level_from, level, expression_level}
use Rattle.rows.specs.Row as Row
use Rattle.grammar.specs.Binary.{operation_kind, right_floor}
use Rattle.laws.proofs.Good.{and_left, and_right}
use Rattle.tokens.specs.Token.{is_name, is_word, is_literal}
use Rattle.rows.specs.Tree.{Forest, node, one, join}
use Rattle.grammar.specs.Sheet.{Sheet, token}
use Rattle.ecma262.specs.Derives as D
use Rattle.ecma262.specs.Derives.{one_of, OneOf, identifiers, identifier_names, literals, literal_property_names, update_operators, unary_operators, assignment_operators, TierExpression, LeftToRight, Derives}
use Rattle.exact.specs.Terminals.{tier_row, Line, LineOf, is_compound, is_key, is_prefix, is_update}

-- LEVELS: which operator a token of a level is, which row it makes, and how far its right operand reads on
-- the tier of the level l + m is the one m further on
tier_has : (l m : ℕ) (rest : List (List ℕ)) (k : ℕ) → 1 ≤ l → level_from l rest k ≡ l + m → (among (get_or rest m []) k ≡ true) × (m < length rest)
tier_has l m [] k h e = absurd (omega arith)
tier_has l m (tier ∷ rest) k h e = go (among tier k) refl m e (λ n. tier_has (suc l) n rest k (omega arith))
  where
    least : (l : ℕ) (rest : List (List ℕ)) → 1 ≤ level_from l rest k → l ≤ level_from l rest k
    least l [] h = absurd (omega arith)
    least l (tier ∷ rest) h = by (among tier k) h (least (suc l) rest)
      where
        by : (b : Bool) → 1 ≤ (if b then l else level_from (suc l) rest k) → (1 ≤ level_from (suc l) rest k → suc l ≤ level_from (suc l) rest k)
            → l ≤ (if b then l else level_from (suc l) rest k)
        by true h f = omega arith
        by false h f = omega (arith, f h)

    go : (b : Bool) → among tier k ≡ b → (m : ℕ) → (if b then l else level_from (suc l) rest k) ≡ l + m
        → ((n : ℕ) → level_from (suc l) rest k ≡ suc l + n → (among (get_or rest n []) k ≡ true) × (n < length rest))
        → (among (get_or (tier ∷ rest) m []) k ≡ true) × (m < suc (length rest))
    go true t zero e f = (t, omega arith)
    go true t (suc m) e f = absurd (omega arith)
    go false t zero e f = absurd (omega (arith, least (suc l) rest (omega arith)))
    go false t (suc m) e f = let r = f m (omega arith) in (r.0, omega (arith, r.1))

-- the level of an operator is that of its tier in the table
has_tier : (k m : ℕ) → expression_level k ≡ suc m → (among (get_or tiers m []) k ≡ true) × (m < 12)
unfolding expression_level level
has_tier k m e = go (k is As or k is Satisfies) e
  where
    go : (b : Bool) → (if b then 0 else level_from 1 tiers k) ≡ suc m → (among (get_or tiers m []) k ≡ true) × (m < 12)
    go true e = absurd (omega arith)
    go false e = tier_has 1 m tiers k (omega arith) (omega arith)

alone : (k a : ℕ) → among (a ∷ []) k ≡ true → k ≡ a
alone k a e = go (k is a) refl e
  where
    go : (b : Bool) → k is a ≡ b → b or false ≡ true → k ≡ a
    go true t e = eqb-true _ _ t
    go false t e = let z : ◌≡◌ {A = ℕ} 0 1 = cc in absurd (omega arith)

-- there are twelve levels
pub levels : (k : ℕ) → expression_level k ≤ 12
levels k = go (expression_level k) refl
  where
    go : (l : ℕ) → expression_level k ≡ l → l ≤ 12
    go zero e = omega arith
    go (suc m) e = let r = has_tier k m e in omega (arith, r.1)

-- the tiers of one operator
pub is_power : (k : ℕ) → expression_level k ≡ 12 → k ≡ Star2
is_power k e = alone k Star2 (has_tier k 11 e).0

pub is_coalesce : (k : ℕ) → expression_level k ≡ 1 → k ≡ Question2
is_coalesce k e = alone k Question2 (has_tier k 0 e).0

-- the level above which the right operand reads on
pub power_floor : right_floor Star2 ≡ 11
unfolding right_floor expression_level level
power_floor = refl

pub other_floor : (k : ℕ) → expression_level k ≤ 11 → right_floor k ≡ expression_level k
unfolding right_floor expression_level level
other_floor k h = go (ℕ_discrete k Star2)
  where
    go : Dec (k ≡ Star2) → right_floor k ≡ expression_level k
    go (yes q) = let e : expression_level k ≡ 12 = rw q in absurd (omega arith)
    go (no q) = rw (ne_eqb _ _ q)

-- the row of an operator is that of its tier
pub row_of_tier : (k : ℕ) → 1 ≤ expression_level k → operation_kind k ≡ tier_row (expression_level k)
unfolding operation_kind tier_row expression_level level
row_of_tier k h = go (between Question2 Amp2 k) refl
  where
    binary : (l : ℕ) → expression_level k ≡ l → between Question2 Amp2 k ≡ false → 1 ≤ l → leb l 3 ≡ false
    binary zero e b h = absurd (omega arith)
    binary (suc zero) e b h = let q : k ≡ Question2 = alone k Question2 (has_tier k 0 e).0 in let t : between Question2 Amp2 k ≡ true = rw q in let z : ◌≡◌ {A = ℕ} 0 1 = cc in absurd (omega arith)
    binary (suc (suc zero)) e b h = let q : k ≡ Pipe2 = alone k Pipe2 (has_tier k 1 e).0 in let t : between Question2 Amp2 k ≡ true = rw q in let z : ◌≡◌ {A = ℕ} 0 1 = cc in absurd (omega arith)
    binary (suc (suc (suc zero))) e b h = let q : k ≡ Amp2 = alone k Amp2 (has_tier k 2 e).0 in let t : between Question2 Amp2 k ≡ true = rw q in let z : ◌≡◌ {A = ℕ} 0 1 = cc in absurd (omega arith)
    binary (suc (suc (suc (suc n)))) e b h = lt-leb (suc (suc (suc (suc n)))) 3 (omega arith)

    logical : Dec (k ≡ Question2) → Dec (k ≡ Pipe2) → Question2 ≤ k → k ≤ Amp2 → leb (expression_level k) 3 ≡ true
    logical (yes q) d a b = rw q
    logical (no q) (yes p) a b = rw p
    logical (no q) (no p) a b = let e : k ≡ Amp2 = omega arith in rw e

    go : (b : Bool) → between Question2 Amp2 k ≡ b → (if b then Row.Logical else Row.Binary) ≡ (if leb (expression_level k) 3 then Row.Logical else Row.Binary)
    go true e = let t = logical (ℕ_discrete k Question2) (ℕ_discrete k Pipe2) (leb-true Question2 k (and_left (leb Question2 k) (leb k Amp2) e)) (leb-true k Amp2 (and_right (leb Question2 k) (leb k Amp2) e)) in rw t
    go false e = rw (binary (expression_level k) refl e h)

-- the assignment operators have no level
pub past_levels : (k : ℕ) → 63 ≤ k → expression_level k ≡ 0
unfolding expression_level level
past_levels k h = rw (ne_eqb k 3 (λ e. omega arith), ne_eqb k 4 (λ e. omega arith), ne_eqb k 38 (λ e. omega arith), ne_eqb k 39 (λ e. omega arith), ne_eqb k 40 (λ e. omega arith), ne_eqb k 41 (λ e. omega arith), ne_eqb k 42 (λ e. omega arith), ne_eqb k 43 (λ e. omega arith), ne_eqb k 44 (λ e. omega arith), ne_eqb k 45 (λ e. omega arith), ne_eqb k 46 (λ e. omega arith), ne_eqb k 47 (λ e. omega arith), ne_eqb k 48 (λ e. omega arith), ne_eqb k 49 (λ e. omega arith), ne_eqb k 50 (λ e. omega arith), ne_eqb k 51 (λ e. omega arith), ne_eqb k 52 (λ e. omega arith), ne_eqb k 53 (λ e. omega arith), ne_eqb k 54 (λ e. omega arith), ne_eqb k 55 (λ e. omega arith), ne_eqb k 56 (λ e. omega arith), ne_eqb k 57 (λ e. omega arith), ne_eqb k 58 (λ e. omega arith), ne_eqb k 59 (λ e. omega arith), ne_eqb k 60 (λ e. omega arith), ne_eqb k 61 (λ e. omega arith), ne_eqb k 62 (λ e. omega arith))

-- THE READER'S CLASSES
-- a token for which a test of the reader's holds stands here
pub record Of (test : ℕ → Bool) (s : Sheet) (at : ℕ) : Type 0 where
  pub holds : test (token s at) ≡ true

-- a token of a level of the reader's table stands here
pub record Operator (s : Sheet) (at tier : ℕ) : Type 0 where
  pub level_is : expression_level (token s at) ≡ tier

-- TWO TESTS OF ALL NUMBERS
-- two tests say the same
abbrev alike : Bool → Bool → Bool
alike true b = b
alike false true = false
alike false false = true

is_alike : (a b : Bool) → alike a b ≡ true → a ≡ b
is_alike true b e = sym e
is_alike false true e = e
is_alike false false e = refl

-- of n numbers from a on
abbrev alike_from : (ℕ → Bool) → (ℕ → Bool) → ℕ → ℕ → Bool
alike_from f g a zero = true
alike_from f g a (suc n) = alike (f a) (g a) and alike_from f g (suc a) n

alike_at : (f g : ℕ → Bool) (n a : ℕ) → alike_from f g a n ≡ true → (k : ℕ) → a ≤ k → k < a + n → f k ≡ g k
alike_at f g zero a e k h l = absurd (omega arith)
alike_at f g (suc n) a e k h l = go (ℕ_discrete k a) (λ x. alike_at f g n (suc a) (and_right (alike (f a) (g a)) (alike_from f g (suc a) n) e) k x (omega arith))
  where
    go : Dec (k ≡ a) → (suc a ≤ k → f k ≡ g k) → f k ≡ g k
    go (yes q) r = rw q (is_alike (f a) (g a) (and_left (alike (f a) (g a)) (alike_from f g (suc a) n) e))
    go (no q) r = r (omega arith)

-- kinds that are all below 79 have no larger one
abbrev all_small : List ℕ → Bool
all_small [] = true
all_small (kind ∷ kinds) = leb kind 78 and all_small kinds

beyond : (kinds : List ℕ) (k : ℕ) → all_small kinds ≡ true → 79 ≤ k → one_of kinds k ≡ false
beyond [] k e h = refl
beyond (kind ∷ kinds) k e h =
    let l = leb-true kind 78 (and_left (leb kind 78) (all_small kinds) e) in
    rw (ne_eqb k kind (λ q. omega arith)) (beyond kinds k (and_right (leb kind 78) (all_small kinds) e) h)

-- kinds and a test: the same up to 78, and nothing beyond
same : (kinds : List ℕ) (test : ℕ → Bool) → all_small kinds ≡ true → alike_from (one_of kinds) test 0 79 ≡ true → ((k : ℕ) → 79 ≤ k → test k ≡ false) → (k : ℕ) → one_of kinds k ≡ test k
same kinds test small e b k = go (native.Mathlib.Decide.dec_lt k 79)
  where
    go : Dec (k < 79) → one_of kinds k ≡ test k
    go (yes l) = alike_at (one_of kinds) test 79 0 e k (omega arith) (omega arith)
    go (no l) = beyond kinds k small (omega arith) ∙ sym (b k (omega arith))

-- THE CLASSES
pub names : (k : ℕ) → one_of identifiers k ≡ is_name k
unfolding is_name
names = same identifiers is_name refl refl (λ k h. rw (le-leb 1 k (omega arith), lt-leb k 5 (omega arith)))

pub words : (k : ℕ) → one_of identifier_names k ≡ is_word k
unfolding is_word
words = same identifier_names is_word refl refl no_word
  where
    no_word : (k : ℕ) → 79 ≤ k → is_word k ≡ false
    no_word k h =
        rw (le-leb 1 k (omega arith), lt-leb k 10 (omega arith), le-leb 14 k (omega arith), lt-leb k 17 (omega arith), le-leb 32 k (omega arith), lt-leb k 35 (omega arith), le-leb 52 k (omega arith), lt-leb k 53 (omega arith))

pub literal_tokens : (k : ℕ) → one_of literals k ≡ is_literal k
unfolding is_literal
literal_tokens = same literals is_literal refl refl (λ k h. rw (le-leb 8 k (omega arith), lt-leb k 13 (omega arith)))

pub keys : (k : ℕ) → one_of literal_property_names k ≡ is_key k
unfolding is_key is_word
keys = same literal_property_names is_key refl refl no_key
  where
    no_key : (k : ℕ) → 79 ≤ k → is_key k ≡ false
    no_key k h =
        rw (le-leb 1 k (omega arith), lt-leb k 10 (omega arith), le-leb 14 k (omega arith), lt-leb k 17 (omega arith), le-leb 32 k (omega arith), lt-leb k 35 (omega arith), le-leb 52 k (omega arith), lt-leb k 53 (omega arith), ne_eqb k 11 (λ e. omega arith), ne_eqb k 12 (λ e. omega arith))

pub unary : (k : ℕ) → one_of unary_operators k ≡ is_prefix k
unfolding is_prefix
unary = same unary_operators is_prefix refl refl
    (λ k h. rw (le-leb 30 k (omega arith), lt-leb k 34 (omega arith), ne_eqb k 57 (λ e. omega arith), ne_eqb k 58 (λ e. omega arith)))

pub updates : (k : ℕ) → one_of update_operators k ≡ is_update k
unfolding is_update
updates = same update_operators is_update refl refl (λ k h. rw (ne_eqb k 36 (λ e. omega arith), ne_eqb k 37 (λ e. omega arith)))

pub compounds : (k : ℕ) → one_of assignment_operators k ≡ is_compound k
unfolding is_compound
compounds = same assignment_operators is_compound refl refl (λ k h. rw (le-leb 64 k (omega arith), lt-leb k 78 (omega arith)))

-- a token of the standard's is one of the reader's, and the other way round
module _ {s : Sheet} {at : ℕ} where
  pub as_read : {kinds : List ℕ} {test : ℕ → Bool} → ((k : ℕ) → one_of kinds k ≡ test k) → OneOf kinds s at → Of test s at
  as_read alike t = record { holds = sym (alike (token s at)) ∙ t.holds }

  pub as_printed : {kinds : List ℕ} {test : ℕ → Bool} → ((k : ℕ) → one_of kinds k ≡ test k) → test (token s at) ≡ true → OneOf kinds s at
  as_printed alike e = record { holds = alike (token s at) ∙ e }

-- beyond the kinds there is no operator
no_level : (l k : ℕ) → 1 ≤ l → 79 ≤ k → expression_level k is l ≡ false
no_level l k h b = rw (past_levels k (omega arith)) (ne_eqb 0 l (λ e. omega arith))

made : (x : ℕ) (operators : List ℕ) (row : ℕ) → 2 ≤ x → x ≤ 11 → row ≡ tier_row x → all_small operators ≡ true → alike_from (one_of operators) (λ k. expression_level k is x) 0 79 ≡ true
    → Line x operators (suc x) row
made x operators row l h r s e =
    record { low = l; high = h; next = refl; row_is = r; of_level = same operators (λ k. expression_level k is x) s e (λ k b. no_level x k (omega arith) b) }

pub line : {x y row : ℕ} {operators : List ℕ} → LeftToRight (TierExpression x) operators (TierExpression y) row → Line x operators y row
unfolding expression_level level tier_row
line D.multiplicative = made 11 _ _ (omega arith) (omega arith) refl refl refl
line D.additive = made 10 _ _ (omega arith) (omega arith) refl refl refl
line D.shift = made 9 _ _ (omega arith) (omega arith) refl refl refl
line D.relational = made 8 _ _ (omega arith) (omega arith) refl refl refl
line D.equality = made 7 _ _ (omega arith) (omega arith) refl refl refl
line D.bitwise_and = made 6 _ _ (omega arith) (omega arith) refl refl refl
line D.bitwise_xor = made 5 _ _ (omega arith) (omega arith) refl refl refl
line D.bitwise_or = made 4 _ _ (omega arith) (omega arith) refl refl refl
line D.logical_and = made 3 _ _ (omega arith) (omega arith) refl refl refl
line D.logical_or = made 2 _ _ (omega arith) (omega arith) refl refl refl

pub line_of : (l : ℕ) → 2 ≤ l → l ≤ 11 → LineOf l
unfolding tier_row
line_of zero a b = absurd (omega arith)
line_of (suc zero) a b = absurd (omega arith)
line_of (suc (suc zero)) a b = record { operators = _; is_line = D.logical_or }
line_of (suc (suc (suc zero))) a b = record { operators = _; is_line = D.logical_and }
line_of (suc (suc (suc (suc zero)))) a b = record { operators = _; is_line = D.bitwise_or }
line_of (suc (suc (suc (suc (suc zero))))) a b = record { operators = _; is_line = D.bitwise_xor }
line_of (suc (suc (suc (suc (suc (suc zero)))))) a b = record { operators = _; is_line = D.bitwise_and }
line_of (suc (suc (suc (suc (suc (suc (suc zero))))))) a b = record { operators = _; is_line = D.equality }
line_of (suc (suc (suc (suc (suc (suc (suc (suc zero)))))))) a b = record { operators = _; is_line = D.relational }
line_of (suc (suc (suc (suc (suc (suc (suc (suc (suc zero))))))))) a b = record { operators = _; is_line = D.shift }
line_of (suc (suc (suc (suc (suc (suc (suc (suc (suc (suc zero)))))))))) a b = record { operators = _; is_line = D.additive }
line_of (suc (suc (suc (suc (suc (suc (suc (suc (suc (suc (suc zero))))))))))) a b = record { operators = _; is_line = D.multiplicative }
line_of (suc (suc (suc (suc (suc (suc (suc (suc (suc (suc (suc (suc l)))))))))))) a b = absurd (omega arith)

-- 13.6 and 13.13: `**` and `??` are alone on their levels
pub power_only : (k : ℕ) → one_of (Star2 ∷ []) k ≡ expression_level k is 12
unfolding expression_level level
power_only = same (Star2 ∷ []) (λ k. expression_level k is 12) refl refl (λ k b. no_level 12 k (omega arith) b)

pub coalesce_only : (k : ℕ) → one_of (Question2 ∷ []) k ≡ expression_level k is 1
unfolding expression_level level
coalesce_only = same (Question2 ∷ []) (λ k. expression_level k is 1) refl refl (λ k b. no_level 1 k (omega arith) b)

module _ {s : Sheet} where
  -- an operator of a line is of its level
  pub operator : {at x y row : ℕ} {operators : List ℕ} → LeftToRight (TierExpression x) operators (TierExpression y) row → OneOf operators s at → Operator s at x
  operator {at} l t = record { level_is = eqb-true _ _ (sym ((line l).of_level (token s at)) ∙ t.holds) }

  -- a tier holds of the next looser one
  pub tier_up : {l i j : ℕ} {ts : Forest} → 2 ≤ l → l ≤ 11 → Derives s (TierExpression (suc l)) i j ts → Derives s (TierExpression l) i j ts
  tier_up {l} a b d = D.no_operation (line_of l a b).is_line d

  -- an operator of a level between what stands on its sides
  pub operation : {l i p j : ℕ} {ts us : Forest} → 2 ≤ l → l ≤ 11 → Derives s (TierExpression l) i p ts → Operator s p l → Derives s (TierExpression (suc l)) (p + 1) j us
      → Derives s (TierExpression l) i j (one (node (tier_row l) p i j (join ts us)))
  operation {l} {p = p} a b d o e =
      let x = line_of l a b in
      D.operation x.is_line d (record { holds = (line x.is_line).of_level (token s p) ∙ eq-eqb _ _ o.level_is }) e
