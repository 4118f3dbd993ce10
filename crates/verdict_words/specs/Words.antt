-- The words of a board, and what the word of a slot says.
use Rattle.std.specs.Prelude.{◌≡◌, ◌≢◌, ◌⊎◌, ℕ, ◌+◌, ◌*◌, ◌%◌, ◌^◌, ◌<◌, ◌≤◌, List, ◌∷◌, ◌++◌, length, take, replicate}
use Rattle.verdict_words.specs.declared.places.Held.{Held}
use Rattle.verdict_words.specs.declared.places.CasePlace.{CasePlace}

-- how many cases, objects and principals there may be, numbered from 0 on. The store of a principal has its number
abbrev pub most_cases : ℕ
most_cases = 262144

abbrev pub most_objects : ℕ
most_objects = 65536

abbrev pub most_principals : ℕ
most_principals = 16384

-- the most entries that a history may have
abbrev pub most_entries : ℕ
most_entries = 262144

-- Word 0 is the length of the history. Words 1 to 4096 are the slots, 4097 to 69632 the registers, and 69633 to 70144 the regions.
abbrev pub slot_count : ℕ
slot_count = 4096

abbrev pub object_regions : ℕ
object_regions = 256

abbrev pub store_regions : ℕ
store_regions = 256

abbrev pub region_count : ℕ
region_count = 512

abbrev pub first_register : ℕ
first_register = 4097

abbrev pub first_region : ℕ
first_region = 69633

abbrev pub word_count : ℕ
word_count = 70145

-- the words of a new board: the count and all regions are the number of entries, and all slots and registers 0
abbrev pub first_words : ℕ → List ℕ
first_words entries = (entries ∷ replicate (slot_count + most_objects) 0) ++ replicate region_count entries

abbrev pub IsSlotWord : ℕ → Type 0
IsSlotWord word = (1 ≤ word) × (word < first_register)

abbrev pub IsRegisterWord : ℕ → Type 0
IsRegisterWord word = (first_register ≤ word) × (word < first_region)

abbrev pub IsRegionWord : ℕ → Type 0
IsRegionWord word = (first_region ≤ word) × (word < word_count)

-- The slot of a case. Cases share slots, and a slot keeps one verdict
abbrev pub slot_word : ℕ → ℕ
slot_word case = 1 + case % slot_count

-- the register of an object
abbrev pub register_word : ℕ → ℕ
register_word object = first_register + object

-- The numbers of regions: those of objects, and then those of stores. Objects share regions, and so do stores: a change of one may make a kept verdict of another miss, and nothing worse
abbrev pub object_region : ℕ → ℕ
object_region object = object % object_regions

abbrev pub store_region : ℕ → ℕ
store_region store = object_regions + store % store_regions

abbrev pub region_word : ℕ → ℕ
region_word region = first_region + region

-- a verdict that may be kept: allowed, no goal, no proof, or a wrong line, which alone has a line and a fault
abbrev pub IsHeld : Held → Type 0
IsHeld held = (1 ≤ held.code) × (held.code ≤ 4) × (held.line ≤ 256) × (held.fault ≤ 12) × (held.code ≢ 4 → (held.line ≡ 0) × (held.fault ≡ 0))

abbrev pub spelling : ℕ → ℕ → Held → ℕ
spelling case at held = held.fault * 2 ^ 56 + held.line * 2 ^ 44 + held.code * 2 ^ 40 + case * 2 ^ 20 + at

-- the word says that the case had this verdict after the first `at` entries
abbrev pub Spells : ℕ → ℕ → ℕ → Held → Type 0
Spells word case at held = (case < most_cases) × (at ≤ most_entries) × IsHeld held × (word ≡ spelling case at held)

-- what the word of a slot says, if anything, is right
abbrev pub Sound : {E : Type 0} → (List E → ℕ → Held → Type 0) → List E → ℕ → Type 0
Sound right history word = (word ≡ 0) ⊎ ((case at : ℕ) × (held : Held) × Spells word case at held × (at ≤ length history) × right (take at history) case held)

-- the word is 0 or spells something
abbrev pub IsSlot : ℕ → Type 0
IsSlot word = (word ≡ 0) ⊎ ((case at : ℕ) × (held : Held) × Spells word case at held)

-- a place that a board has slots and regions for
abbrev pub IsPlace : CasePlace → Type 0
IsPlace place = (place.case < most_cases) × (place.store < most_principals)
