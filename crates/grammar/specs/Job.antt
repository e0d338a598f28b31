-- The nonterminals, each with the place where it starts. Those that read a list or a chain bit by bit also have the place that they are
-- at and what they have read so far: they are the standard's left-recursive productions.
use Rattle.rows.specs.Base.{ℕ, Tree, Forest}
use Rattle.grammar.specs.Sheet.{Reading}

pub data Job : Type 0 where
  -- 13.16
  expression : ℕ → Job
  sequence : (first comma at : ℕ) → Forest → Job
  -- 13.15 and 13.14
  assignment value : ℕ → Job
  assign conditional : (first at : ℕ) → Tree → Job
  -- 13.6 to 13.13
  binary : (floor at : ℕ) → Job
  operators : (floor first at : ℕ) → Tree → Job
  -- 13.5 and 13.4
  unary postfix : ℕ → Job
  -- 13.3
  left_hand_side : ℕ → Job
  links : (first at : ℕ) → Tree → Job
  arguments : (first at : ℕ) → Forest → Job
  -- 13.2
  primary property key spread : ℕ → Job
  elements properties : (first at kind : ℕ) → Forest → Job
  -- 14.3.3
  binding binding_element binding_property binding_rest : ℕ → Job
  binding_elements binding_properties : (first at : ℕ) → Forest → Job
  -- 15.3 and 15.9
  head : ℕ → Job
  parameters : ℕ → Forest → Job
  body : (kind first at : ℕ) → Forest → Job

abbrev pub Asks : Type 0 → Type 0  -- how a production asks for its parts
Asks N = Job → Reading N
