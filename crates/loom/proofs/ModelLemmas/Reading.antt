-- How choices are read, and that what is written is read back.
use Rattle.std.proofs.Math.Seq.{take-length}
use Rattle.std.proofs.Common.{◌≡◌, ℕ, zero, suc, ◌+◌, ◌-◌, ◌<◌, length, take, drop, true, false, List, [], ◌∷◌, ◌++◌, Option, Some, None, refl, ap, sym, ◌∙◌, arith, append-nil, append_assoc}
use Rattle.std.proofs.lemmas.Bool.{and_parts, ltb-true}
use Rattle.std.specs.Prelude.{cond, decimal, ◌==◌}
use Rattle.std.specs.Fmt.{digits}
use Rattle.std.specs.List.{list_all}
use Rattle.std.specs.Option.{option_map}
use Rattle.loom_objects.specs.declared.choice.Choice.{Choice}
use Rattle.loom_objects.specs.declared.choice.Choice.TheVariants.{Thread, Load, Spurious}
use Rattle.loom_objects.specs.Choice.{choice_in, choice_text, digit_below}
use Rattle.loom_objects.specs.Choice.{after_word, is_space, word_ends}
use Rattle.loom_objects.specs.World.{MAX_THREADS}
use Rattle.loom.specs.Model.ChoicesRead.{before, choices_in, may_come, ReadsBackLaw}
use Rattle.loom.specs.Model.ChoicesText.{others_text}

-- these choices, and then those, if they are
abbrev pub put_before : List Choice → Option (List Choice) → Option (List Choice)
put_before choices None = None
put_before choices (Some more) = Some (choices ++ more)

pub none_before : (more : Option (List Choice)) → more ≡ put_before [] more
none_before None = refl
none_before (Some more) = refl

-- a space is passed over
pub space_read : (byte : ℕ) (rest : List ℕ) → is_space byte ≡ true → choices_in (byte ∷ rest) ≡ choices_in rest
space_read byte [] h = ap (λ b. cond b (Some []) None) h
space_read byte (sign ∷ rest) h = ap (λ b. cond b (choices_in (sign ∷ rest)) (before (after_word byte (sign ∷ rest)) (choices_in rest))) h

-- a word is read
pub word_read : (letter sign : ℕ) (rest : List ℕ) (choice : Choice) → is_space letter ≡ false → after_word letter (sign ∷ rest) ≡ Some choice
    → choices_in (letter ∷ sign ∷ rest) ≡ before (Some choice) (choices_in rest)
word_read letter sign rest choice h e =
    ap (λ b. cond b (choices_in (sign ∷ rest)) (before (after_word letter (sign ∷ rest)) (choices_in rest))) h ∙ ap (λ c. before c (choices_in rest)) e

-- or it is none
pub no_word : (letter : ℕ) (rest : List ℕ) → is_space letter ≡ false → after_word letter rest ≡ None → choices_in (letter ∷ rest) ≡ None
no_word letter [] h e = ap (λ b. cond b (Some []) None) h
no_word letter (sign ∷ rest) h e =
    ap (λ b. cond b (choices_in (sign ∷ rest)) (before (after_word letter (sign ∷ rest)) (choices_in rest))) h ∙ ap (λ c. before c (choices_in rest)) e

pub one_before : (choices : List Choice) (choice : Choice) (more : Option (List Choice)) → put_before choices (before (Some choice) more) ≡ put_before (choices ++ choice ∷ []) more
one_before choices choice None = refl
one_before choices choice (Some more) = ap Some (sym (append_assoc choices (choice ∷ []) more))

-- a word has a letter and a sign
pub record HasSign (letter : ℕ) (after : List ℕ) (choice : Choice) : Type 0 where
  pub sign : ℕ
  pub rest : List ℕ
  pub splits : after ≡ sign ∷ rest

pub has_sign : (letter : ℕ) (after : List ℕ) (choice : Choice) → after_word letter after ≡ Some choice → HasSign letter after choice
has_sign letter [] choice e = absurd (cc e)
has_sign letter (sign ∷ rest) choice e = record { sign = sign; rest = rest; splits = refl }

-- ---- one step of the loop

pub past_space : (text : List ℕ) (choices : List Choice) (rest after : List ℕ) (byte : ℕ) → choices_in text ≡ put_before choices (choices_in rest) → rest ≡ byte ∷ after → is_space byte ≡ true
    → choices_in text ≡ put_before choices (choices_in after)
past_space text choices rest after byte so_far splits h = so_far ∙ ap (λ r. put_before choices (choices_in r)) splits ∙ ap (put_before choices) (space_read byte after h)

past_word : (text : List ℕ) (choices : List Choice) (rest : List ℕ) (letter sign : ℕ) (after : List ℕ) (choice : Choice) → choices_in text ≡ put_before choices (choices_in rest)
    → rest ≡ letter ∷ sign ∷ after → is_space letter ≡ false → after_word letter (sign ∷ after) ≡ Some choice → choices_in text ≡ put_before (choices ++ choice ∷ []) (choices_in after)
past_word text choices rest letter sign after choice so_far splits h e =
    so_far ∙ ap (λ r. put_before choices (choices_in r)) splits ∙ ap (put_before choices) (word_read letter sign after choice h e) ∙ one_before choices choice (choices_in after)

pub at_no_word : (text : List ℕ) (choices : List Choice) (rest : List ℕ) (letter : ℕ) (after : List ℕ) → choices_in text ≡ put_before choices (choices_in rest)
    → rest ≡ letter ∷ after → is_space letter ≡ false → after_word letter after ≡ None → choices_in text ≡ None
at_no_word text choices rest letter after so_far splits h e =
    so_far ∙ ap (λ r. put_before choices (choices_in r)) splits ∙ ap (put_before choices) (no_word letter after h e)

pub at_end : (text : List ℕ) (choices : List Choice) (rest : List ℕ) → choices_in text ≡ put_before choices (choices_in rest) → rest ≡ [] → choices_in text ≡ Some choices
at_end text choices rest so_far splits = so_far ∙ ap (λ r. put_before choices (choices_in r)) splits ∙ ap Some (append-nil choices)

-- past its letter and its sign the rest is left
tail_is : (sign : ℕ) (rest : List ℕ) → take (length (sign ∷ rest) - 1) (drop 1 (sign ∷ rest)) ≡ rest
tail_is sign rest = (let e : length (sign ∷ rest) - 1 ≡ length rest = omega arith in ap (λ n. take n rest) e ∙ take-length rest)

pub step_word : (text : List ℕ) (choices : List Choice) (rest : List ℕ) (letter : ℕ) (after : List ℕ) (choice : Choice) → choices_in text ≡ put_before choices (choices_in rest)
    → rest ≡ letter ∷ after → is_space letter ≡ false → after_word letter after ≡ Some choice
    → choices_in text ≡ put_before (choices ++ choice ∷ []) (choices_in (take (length after - 1) (drop 1 after)))
step_word text choices rest letter after choice so_far splits h e =
    let w = has_sign letter after choice e in
    past_word text choices rest letter w.sign w.rest choice so_far (splits ∙ ap (λ l. letter ∷ l) w.splits) h (ap (after_word letter) (sym w.splits) ∙ e)
    ∙ ap (λ l. put_before (choices ++ choice ∷ []) (choices_in l)) (sym (ap (λ (l : List ℕ). take (length l - 1) (drop 1 l)) w.splits ∙ tail_is w.sign w.rest))

-- ---- what is written is read back

-- a number of one digit, below this limit
record HasDigit (limit n : ℕ) : Type 0 where
  text : decimal n ≡ (48 + n) ∷ []
  value : digit_below limit (48 + n) ≡ Some n
  no_dash : ((48 + n) == 45) ≡ false

a_thread : (n : ℕ) → n < MAX_THREADS → HasDigit MAX_THREADS n
unfolding digits
a_thread zero h = record { text = refl; value = refl; no_dash = refl }
a_thread (suc zero) h = record { text = refl; value = refl; no_dash = refl }
a_thread (suc (suc zero)) h = record { text = refl; value = refl; no_dash = refl }
a_thread (suc (suc (suc zero))) h = record { text = refl; value = refl; no_dash = refl }
a_thread (suc (suc (suc (suc zero)))) h = record { text = refl; value = refl; no_dash = refl }
a_thread (suc (suc (suc (suc (suc n))))) h = absurd (omega (arith, h))

a_slot : (n : ℕ) → n < 7 → HasDigit 7 n
unfolding digits
a_slot zero h = record { text = refl; value = refl; no_dash = refl }
a_slot (suc zero) h = record { text = refl; value = refl; no_dash = refl }
a_slot (suc (suc zero)) h = record { text = refl; value = refl; no_dash = refl }
a_slot (suc (suc (suc zero))) h = record { text = refl; value = refl; no_dash = refl }
a_slot (suc (suc (suc (suc zero)))) h = record { text = refl; value = refl; no_dash = refl }
a_slot (suc (suc (suc (suc (suc zero))))) h = record { text = refl; value = refl; no_dash = refl }
a_slot (suc (suc (suc (suc (suc (suc zero)))))) h = record { text = refl; value = refl; no_dash = refl }
a_slot (suc (suc (suc (suc (suc (suc (suc n))))))) h = absurd (omega (arith, h))

-- the choice is written as a word
record IsWord (choice : Choice) : Type 0 where
  letter : ℕ
  sign : ℕ
  text : choice_text choice ≡ letter ∷ sign ∷ []
  named : choice_in letter sign ≡ Some choice
  no_space : is_space letter ≡ false

is_word : (choice : Choice) → may_come choice ≡ true → IsWord choice
is_word (Thread None) h = record { letter = 116; sign = 45; text = refl; named = refl; no_space = refl }
is_word (Thread (Some n)) h =
    let d = a_thread n (ltb-true n MAX_THREADS h) in
    record {
      letter = 116;
      sign = 48 + n;
      text = ap (λ (l : List ℕ). 116 ∷ l) d.text;
      named = ap (λ b. cond b (Some (Thread None)) (option_map (λ thread. Thread (Some thread)) (digit_below MAX_THREADS (48 + n)))) d.no_dash
          ∙ ap (λ (o : Option ℕ). option_map (λ thread. Thread (Some thread)) o) d.value;
      no_space = refl;
    }
is_word (Load n) h =
    let d = a_slot n (ltb-true n 7 h) in
    record {
      letter = 108;
      sign = 48 + n;
      text = ap (λ (l : List ℕ). 108 ∷ l) d.text;
      named = ap (λ (o : Option ℕ). option_map (λ slot. Load slot) o) d.value;
      no_space = refl;
    }
is_word (Spurious false) h = record { letter = 115; sign = 48; text = refl; named = refl; no_space = refl }
is_word (Spurious true) h = record { letter = 115; sign = 49; text = refl; named = refl; no_space = refl }

others_end : (choices : List Choice) → word_ends (others_text choices) ≡ true
others_end [] = refl
others_end (choice ∷ choices) = refl

one_back : (choice : Choice) (choices : List Choice) → may_come choice ≡ true → choices_in (others_text choices) ≡ Some choices
    → choices_in (choice_text choice ++ others_text choices) ≡ Some (choice ∷ choices)
one_back choice choices h ih =
    let w = is_word choice h in
    let word : after_word w.letter (w.sign ∷ others_text choices) ≡ Some choice = ap (λ b. cond b (choice_in w.letter w.sign) None) (others_end choices) ∙ w.named in
    ap (λ (t : List ℕ). choices_in (t ++ others_text choices)) w.text ∙ word_read w.letter w.sign (others_text choices) choice w.no_space word ∙ ap (before (Some choice)) ih

others_back : (choices : List Choice) → list_all may_come choices ≡ true → choices_in (others_text choices) ≡ Some choices
others_back [] h = refl
others_back (choice ∷ choices) h =
    let parts = and_parts (may_come choice) (list_all may_come choices) h in
    space_read 32 (choice_text choice ++ others_text choices) refl ∙ one_back choice choices parts.0 (others_back choices parts.1)

pub reads_back_law : ReadsBackLaw
reads_back_law [] h = refl
reads_back_law (choice ∷ choices) h =
    let parts = and_parts (may_come choice) (list_all may_come choices) h in
    one_back choice choices parts.0 (others_back choices parts.1)
