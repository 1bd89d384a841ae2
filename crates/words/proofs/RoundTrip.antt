-- Decoding and encoding undo each other.
-- Assumes nothing.
use Rattle.std.proofs.Common.{◌≡◌, ℕ, ◌+◌, ◌*◌, ◌/◌, ◌%◌, ◌^◌, ◌<◌, ◌&&◌, eqb, ltb, sym, refl, ap, ◌∙◌, ⊎_elim, mod-eq_of_lt, div-add-mod', zero-add, arith, lit<, ltb-true, lt-ltb, eqb-true}
use native.Mathlib.Nat.{div-div-eq-div-mul}
use lib.Arith.{digits_div, digits_mod}
use Rattle.terms.specs.Answers.{Answer, answered, refused, no, pick}
use Rattle.terms.proofs.Answers.{picked, push, never, both_true}
use Rattle.words.specs.Decoding.{made, decoding}
use Rattle.words.specs.Encoding.{r_format, i_format, j_format, encoding}
use Rattle.words.specs.Fields.{opcode, rs, rt, rd, function, field, target}
use Rattle.words.specs.Kinds.{by_function, by_opcode}
use Rattle.words.specs.RoundTrip.{HasWidths, RoundTrip}
use Rattle.words.specs.declared.instructions.Instruction.TheVariants.{Add, Sub, And, Or, Slt, Lw, Sw, Beq, Jump}
use Rattle.words.specs.declared.instructions.Instruction.{Instruction}
use Rattle.words.specs.declared.kinds.Kind.{Kind}

-- the instruction of a function and three registers, and of an opcode and its fields, as choices
abbrev pub functioned : ℕ → ℕ → ℕ → ℕ → Answer Instruction
functioned f rd rs rt =
    pick (eqb f 32) (answered (Add rd rs rt))
    (pick (eqb f 34) (answered (Sub rd rs rt))
    (pick (eqb f 36) (answered (And rd rs rt))
    (pick (eqb f 37) (answered (Or rd rs rt)) (pick (eqb f 42) (answered (Slt rd rs rt)) (refused (no 4))))))

abbrev pub opcoded : ℕ → Answer Instruction → ℕ → ℕ → ℕ → ℕ → Answer Instruction
opcoded o zero rs rt field target =
    pick (eqb o 0) zero
    (pick (eqb o 2) (answered (Jump target))
    (pick (eqb o 4) (answered (Beq rs rt field))
    (pick (eqb o 35) (answered (Lw rt rs field)) (pick (eqb o 43) (answered (Sw rt rs field)) (refused (no 3))))))

made_by_function : (f rd rs rt field target : ℕ) → made (by_function f) rd rs rt field target ≡ functioned f rd rs rt
unfolding by_function
made_by_function f rd rs rt field target = simp (push (λ (k : Kind). made k rd rs rt field target))

pub decoding_chosen : (w : ℕ) → decoding w ≡ opcoded (opcode w) (functioned (function w) (rd w) (rs w) (rt w)) (rs w) (rt w) (field w) (target w)
unfolding by_opcode
decoding_chosen w =
    simp (push (λ (k : Kind). made k (rd w) (rs w) (rt w) (field w) (target w)), made_by_function (function w) (rd w) (rs w) (rt w) (field w) (target w))

-- where a choice by the number f came out at the instruction i, and j is what k stands for, i has the word of f
r_step : (rd rs rt k f : ℕ) (i j : Instruction) {rest : Answer Instruction} → encoding j ≡ r_format rd rs rt k → (rest ≡ answered i → encoding i ≡ r_format rd rs rt f) → pick (eqb f k) (answered j) rest ≡ answered i → encoding i ≡ r_format rd rs rt f
r_step rd rs rt k f i j same go e =
    ⊎_elim
    (λ h. let a : j ≡ i = cc h.1 in let b : f ≡ k = eqb-true f k h.0 in ap encoding (sym a) ∙ same ∙ ap (r_format rd rs rt) (sym b))
    (λ h. go h.1)
    (picked (eqb f k) e)

by_function_encodes : (f rd rs rt : ℕ) (i : Instruction) → functioned f rd rs rt ≡ answered i → encoding i ≡ r_format rd rs rt f
by_function_encodes f rd rs rt i =
    r_step rd rs rt 32 f i (Add rd rs rt) refl
    (r_step rd rs rt 34 f i (Sub rd rs rt) refl
    (r_step rd rs rt 36 f i (And rd rs rt) refl
    (r_step rd rs rt 37 f i (Or rd rs rt) refl (r_step rd rs rt 42 f i (Slt rd rs rt) refl never))))

-- what stands above a field of n, and the field, in what stands above the bits below it
above : (w b n : ℕ) → w / (b * n) * n + w / b % n ≡ w / b
above w b n = rw (← div-div-eq-div-mul w b n) (div-add-mod' (w / b) n)

upper : (w : ℕ) → w < 2 ^ 32 → w / 2 ^ 26 ≡ opcode w
upper w h = sym (mod-eq_of_lt (omega arith))

-- a word is the sum of its fields
i_sum : (w q r s t f k : ℕ) → q * 2 ^ 16 + f ≡ w → r * 2 ^ 5 + t ≡ q → k * 2 ^ 5 + s ≡ r → k * 2 ^ 26 + s * 2 ^ 21 + t * 2 ^ 16 + f ≡ w
i_sum w q r s t f k a b c = omega arith

r_sum : (w q f d : ℕ) → q * 2 ^ 11 + f ≡ w → (r : ℕ) → r * 2 ^ 5 + d ≡ q → r * 2 ^ 16 + (d * 2 ^ 11 + f) ≡ w
r_sum w q f d a r b = omega arith

r_join : (w k s t d f : ℕ) → k ≡ 0 → k * 2 ^ 26 + s * 2 ^ 21 + t * 2 ^ 16 + (d * 2 ^ 11 + f) ≡ w → s * 2 ^ 21 + t * 2 ^ 16 + d * 2 ^ 11 + f ≡ w
r_join w k s t d f a b = omega arith

-- the field r of n, with q above it, in what stands above the bits below it
split : (w b n q r : ℕ) → r < n → w / b ≡ q * n + r → (w / (b * n) ≡ q) × (w / b % n ≡ r)
split w b n q r h e = (sym (div-div-eq-div-mul w b n) ∙ ap (λ x. x / n) e ∙ digits_div q h, ap (λ x. x % n) e ∙ digits_mod q h)

-- registers below 32 are taken, and the word is the sum of its fields
r_word : (rd rs rt f : ℕ) → rd < 32 → rs < 32 → rt < 32 → r_format rd rs rt f ≡ answered (rs * 2 ^ 21 + rt * 2 ^ 16 + rd * 2 ^ 11 + f)
unfolding r_format
r_word rd rs rt f hd hs ht = simp (lt-ltb rd 32 hd, lt-ltb rs 32 hs, lt-ltb rt 32 ht)

i_word : (k rs rt f : ℕ) → rs < 32 → rt < 32 → i_format k rs rt f ≡ answered (k * 2 ^ 26 + rs * 2 ^ 21 + rt * 2 ^ 16 + f)
unfolding i_format
i_word k rs rt f hs ht = simp (lt-ltb rs 32 hs, lt-ltb rt 32 ht)

j_word : (t : ℕ) → t < 2 ^ 26 → j_format t ≡ answered (2 * 2 ^ 26 + t)
unfolding j_format
j_word t h = simp (lt-ltb t (2 ^ 26) h)

module _ (w : ℕ) (fits : w < 2 ^ 32) where
  -- each format, made of the word's own fields, is the word
  r_own : opcode w ≡ 0 → r_format (rd w) (rs w) (rt w) (function w) ≡ answered w
  r_own h = r_word (rd w) (rs w) (rt w) (function w) (omega arith) (omega arith) (omega arith) ∙ ap answered (let a = r_sum w (w / 2 ^ 11) (function w) (rd w) (div-add-mod' w (2 ^ 11)) (w / 2 ^ 16) (above w (2 ^ 11) (2 ^ 5)) in let b = i_sum w (w / 2 ^ 16) (w / 2 ^ 21) (rs w) (rt w) (rd w * 2 ^ 11 + function w) (opcode w) a (above w (2 ^ 16) (2 ^ 5)) (rw (← upper w fits) (above w (2 ^ 21) (2 ^ 5))) in r_join w (opcode w) (rs w) (rt w) (rd w) (function w) h b)

  i_own : (k : ℕ) → opcode w ≡ k → i_format k (rs w) (rt w) (field w) ≡ answered w
  i_own k h = i_word k (rs w) (rt w) (field w) (omega arith) (omega arith) ∙ ap answered (rw (← h) (i_sum w (w / 2 ^ 16) (w / 2 ^ 21) (rs w) (rt w) (field w) (opcode w) (div-add-mod' w (2 ^ 16)) (above w (2 ^ 16) (2 ^ 5)) (rw (← upper w fits) (above w (2 ^ 21) (2 ^ 5)))))

  j_own : opcode w ≡ 2 → j_format (target w) ≡ answered w
  j_own h = j_word (target w) (omega arith) ∙ ap answered (omega arith)

  o_step : (k : ℕ) (i j : Instruction) {rest : Answer Instruction} → (opcode w ≡ k → encoding j ≡ answered w) → (rest ≡ answered i → encoding i ≡ answered w) → pick (eqb (opcode w) k) (answered j) rest ≡ answered i → encoding i ≡ answered w
  o_step k i j own go e =
      ⊎_elim
      (λ h. let a : j ≡ i = cc h.1 in ap encoding (sym a) ∙ own (eqb-true (opcode w) k h.0))
      (λ h. go h.1)
      (picked (eqb (opcode w) k) e)

  -- What decodes encodes back to the same word.
  decoded_encodes : (i : Instruction) → decoding w ≡ answered i → encoding i ≡ answered w
  decoded_encodes i e' =
      let e = sym (decoding_chosen w) ∙ e' in
      ⊎_elim
      (λ h. by_function_encodes (function w) (rd w) (rs w) (rt w) i h.1 ∙ r_own (eqb-true (opcode w) 0 h.0))
      (λ h.
      o_step 2 i (Jump (target w)) j_own
      (o_step 4 i (Beq (rs w) (rt w) (field w)) (i_own 4)
      (o_step 35 i (Lw (rt w) (rs w) (field w)) (i_own 35) (o_step 43 i (Sw (rt w) (rs w) (field w)) (i_own 43) never))) h.1)
      (picked (eqb (opcode w) 0) e)

-- what a word of each format decodes to, by its number
r_decodes : (rd rs rt f w : ℕ) → f < 2 ^ 11 → r_format rd rs rt f ≡ answered w → decoding w ≡ made (by_function f) rd rs rt (field w) (target w)
unfolding r_format by_opcode
r_decodes rd' rs' rt' f w hf e =
    ⊎_elim
    (λ h.
    let t = both_true (ltb rd' 32) (ltb rs' 32 && ltb rt' 32) h.0 in
    let u = both_true (ltb rs' 32) (ltb rt' 32) t.1 in
    let q : rs' * 2 ^ 21 + rt' * 2 ^ 16 + rd' * 2 ^ 11 + f ≡ w = cc h.1 in
    let n : ((rs' * 32 + rt') * 32 + rd') * 2 ^ 11 + f ≡ w = omega arith in
    let a : w / 2 ^ 11 ≡ (rs' * 32 + rt') * 32 + rd' = ap (λ x. x / 2 ^ 11) (sym n) ∙ digits_div ((rs' * 32 + rt') * 32 + rd') hf in
    let b : function w ≡ f = ap (λ x. x % 2 ^ 11) (sym n) ∙ digits_mod ((rs' * 32 + rt') * 32 + rd') hf in
    let c = split w (2 ^ 11) 32 (rs' * 32 + rt') rd' (ltb-true rd' 32 t.0) a in
    let d = split w (2 ^ 16) 32 rs' rt' (ltb-true rt' 32 u.1) c.0 in
    let g = split w (2 ^ 21) 32 0 rs' (ltb-true rs' 32 u.0) (d.0 ∙ sym (zero-add rs')) in
    rw (g.0, b, c.1, d.1, g.1))
    (λ h. never h.1)
    (picked (ltb rd' 32 && (ltb rs' 32 && ltb rt' 32)) e)

i_decodes : (k rs rt f w : ℕ) → k < 2 ^ 6 → f < 2 ^ 16 → i_format k rs rt f ≡ answered w → decoding w ≡ made (by_opcode k (function w)) (rd w) rs rt f (target w)
unfolding i_format
i_decodes k rs' rt' f w hk hf e =
    ⊎_elim
    (λ h.
    let u = both_true (ltb rs' 32) (ltb rt' 32) h.0 in
    let q : k * 2 ^ 26 + rs' * 2 ^ 21 + rt' * 2 ^ 16 + f ≡ w = cc h.1 in
    let n : ((k * 32 + rs') * 32 + rt') * 2 ^ 16 + f ≡ w = omega arith in
    let a : w / 2 ^ 16 ≡ (k * 32 + rs') * 32 + rt' = ap (λ x. x / 2 ^ 16) (sym n) ∙ digits_div ((k * 32 + rs') * 32 + rt') hf in
    let b : field w ≡ f = ap (λ x. x % 2 ^ 16) (sym n) ∙ digits_mod ((k * 32 + rs') * 32 + rt') hf in
    let d = split w (2 ^ 16) 32 (k * 32 + rs') rt' (ltb-true rt' 32 u.1) a in
    let g = split w (2 ^ 21) 32 k rs' (ltb-true rs' 32 u.0) d.0 in
    rw (g.0, mod-eq_of_lt hk, b, d.1, g.1))
    (λ h. never h.1)
    (picked (ltb rs' 32 && ltb rt' 32) e)

j_decodes : (t w : ℕ) → j_format t ≡ answered w → decoding w ≡ answered (Jump t)
unfolding j_format by_opcode
j_decodes t w e =
    ⊎_elim
    (λ h.
    let q : 2 * 2 ^ 26 + t ≡ w = cc h.1 in
    let u : t < 2 ^ 26 = ltb-true t (2 ^ 26) h.0 in
    let o : opcode w ≡ 2 = omega arith in
    let a : target w ≡ t = omega arith in
    rw (o, a))
    (λ h. never h.1)
    (picked (ltb t (2 ^ 26)) e)

-- What encodes decodes back to the same instruction.
encoded_decodes : (i : Instruction) (w : ℕ) → HasWidths i → encoding i ≡ answered w → decoding w ≡ answered i
unfolding by_function by_opcode
encoded_decodes (Add rd rs rt) w h e = r_decodes rd rs rt 32 w (lit< tt) e
encoded_decodes (Sub rd rs rt) w h e = r_decodes rd rs rt 34 w (lit< tt) e
encoded_decodes (And rd rs rt) w h e = r_decodes rd rs rt 36 w (lit< tt) e
encoded_decodes (Or rd rs rt) w h e = r_decodes rd rs rt 37 w (lit< tt) e
encoded_decodes (Slt rd rs rt) w h e = r_decodes rd rs rt 42 w (lit< tt) e
encoded_decodes (Lw rt rs field) w h e = i_decodes 35 rs rt field w (lit< tt) h e
encoded_decodes (Sw rt rs field) w h e = i_decodes 43 rs rt field w (lit< tt) h e
encoded_decodes (Beq rs rt field) w h e = i_decodes 4 rs rt field w (lit< tt) h e
encoded_decodes (Jump field) w h e = j_decodes field w e

pub round_trip : RoundTrip
round_trip = record { decoded_encodes = decoded_encodes; encoded_decodes = encoded_decodes }
