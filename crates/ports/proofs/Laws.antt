-- The calls, and a text of a buffer that is handed over. Assumes nothing.
use Rattle.std.proofs.Common.{◌≡◌, ℕ, ◌-◌, ◌≤◌, Bool, true, false, List, ◌++◌, length, take, drop, sym, refl, ap, ◌∙◌, subst, arith, length-append, take_at, ne_eqb}
use Rattle.ports.specs.declared.End.TheVariants.{Met, Broken}
use Rattle.ports.specs.declared.Input.{Input}
use Rattle.ports.specs.declared.Output.{Output}
use Rattle.ports.specs.declared.Came.{Came}
use Rattle.ports.specs.declared.Sent.{Sent}
use Rattle.ports.specs.Ports.{read_by, stopped_by, came, wrote, handed_by, sent, read_is, ended_is, broken-is, wrote-is, cut-is}

abbrev Received : Input → List ℕ → Came → Type 0
Received i buf c = (c.count ≤ length buf) × (c.input ≡ came c.failed c.count i (take c.count buf))

module _ (i : Input) (buf : List ℕ) (c : Came) where
  pub received : (n : ℕ) → c ≡ record { input = read_by i n; count = n; failed = false } → (n ≡ 0 → ⊥) → (n ≤ length buf) × (n ≡ length (take n buf)) → Received i buf c
  unfolding came
  received n q some h = subst (Received i buf) (sym q) (h.0, rw (ne_eqb n 0 some) (read_is i n (take n buf) h.1))

  pub end-met : c ≡ record { input = stopped_by i Met; count = 0; failed = false } → Received i buf c
  unfolding came
  end-met q = subst (Received i buf) (sym q) (omega arith, ended_is i)

  pub read-failed : c ≡ record { input = stopped_by i Broken; count = 0; failed = true } → Received i buf c
  unfolding came
  read-failed q = subst (Received i buf) (sym q) (omega arith, broken-is i)

module _ (o : Output) (text : List ℕ) (s : Sent) where
  abbrev Handed : Sent → Type 0
  Handed x = x.output ≡ sent x.failed (wrote o text)

  pub sent-whole : s ≡ record { output = handed_by o (length text) o.cut; failed = false } → Handed s
  sent-whole q = subst Handed (sym q) (wrote-is o text)

  pub write-failed : s ≡ record { output = handed_by o (length text) true; failed = true } → Handed s
  write-failed q = subst Handed (sym q) (cut-is o text)

-- a text that stands at a buffer's start, and is handed over from there
module _ (text out out' : List ℕ) (q : out' ≡ text ++ drop (length text) out) where
  text-front : take (length text) out' ≡ text
  text-front = ap (take (length text)) q ∙ take_at text (drop (length text) out) (length text) refl

  pub text-inside : (n : ℕ) → n ≡ length text → n ≤ length out'
  text-inside n e = let l = length-append text (drop (length text) out) in omega (arith, e, l, ap length q)

  pub text-fits : (n : ℕ) → n ≡ length text → take (n - 0) out' ≡ text
  text-fits n e = let z : n - 0 ≡ length text = omega (arith, e) in ap (λ (k : ℕ). take k out') z ∙ text-front

  pub text-sent : (n : ℕ) → n ≡ length text → (o : Output) (b : Bool) (o' : Output) → o' ≡ sent b (wrote o (take (n - 0) out')) → o' ≡ sent b (wrote o text)
  text-sent n e o b o' s =
      let z : n - 0 ≡ length text = omega (arith, e) in
      s ∙ ap (λ (k : ℕ). sent b (wrote o (take k out'))) z ∙ ap (λ (x : List ℕ). sent b (wrote o x)) text-front
