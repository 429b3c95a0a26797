-- Data that an object hands out and takes back.
use Rattle.std.specs.Prelude.{ℕ, ◌==◌, Bool, false, true, cond, Option, Some, None}
use Rattle.loom_objects.specs.declared.rt.lent.Lent.{Lent}

-- the option is this number
abbrev pub is_number : Option ℕ → ℕ → Bool
is_number None n = false
is_number (Some m) n = m == n

module _ {D : Type 0} where
  -- data that nobody has
  abbrev pub kept : D → Lent D
  kept value = record { value = Some value; lent = None; is_taken = false }

  -- the data that is in, unless it was taken apart
  abbrev pub value_in : Lent D → Option D
  value_in content = cond content.is_taken None content.value

  -- who holds the object has it
  abbrev pub handed_out : Lent D → Lent D
  handed_out content = record content { value = None }

  -- it is back from who held the object
  abbrev pub handed_back : D → Lent D → Lent D
  handed_back value content = record content { value = Some value }

  -- the thread has it, without holding the object
  abbrev pub lent_to : ℕ → Lent D → Lent D
  lent_to t content = record content { value = None; lent = Some t }

  -- it is back from the thread that it was lent to
  abbrev pub put_back : D → Lent D → Lent D
  put_back value content = record content { value = Some value; lent = None }

  abbrev pub taken_apart : Lent D → Lent D
  taken_apart content = record content { value = None; is_taken = true }

  abbrev pub changed_if : Option D → (Lent D → Lent D) → Lent D → Lent D
  changed_if None change content = content
  changed_if (Some value) change content = change content

  -- changed so, where data is in
  abbrev pub where_in : (Lent D → Lent D) → Lent D → Lent D
  where_in change content = changed_if (value_in content) change content
