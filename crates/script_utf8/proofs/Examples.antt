-- Byte lists that people have stumbled on, by computation. Assumes nothing.
use mathlib.Core.Bool.{true, false}
use mathlib.Core.List.{[], ◌∷◌}
use mathlib.Core.Path.{◌≡◌, refl}
use Rattle.script_utf8.specs.Utf8.{in_range, after_first, after_this, after_byte, may_end, utf8_from, is_utf8, encode}

-- U+0000 in two bytes
pub overlong_refused : is_utf8 (0xC0 ∷ 0x80 ∷ []) ≡ false
unfolding in_range after_first after_this after_byte may_end utf8_from
overlong_refused = refl

-- a surrogate
pub surrogate_refused : is_utf8 (0xED ∷ 0xA0 ∷ 0x80 ∷ []) ≡ false
unfolding in_range after_first after_this after_byte may_end utf8_from
surrogate_refused = refl

-- 0x110000
pub too_large_refused : is_utf8 (0xF4 ∷ 0x90 ∷ 0x80 ∷ 0x80 ∷ []) ≡ false
unfolding in_range after_first after_this after_byte may_end utf8_from
too_large_refused = refl

-- a continuation byte alone, and a character cut short
pub lone_refused : is_utf8 (0x80 ∷ []) ≡ false
unfolding in_range after_first after_this after_byte may_end utf8_from
lone_refused = refl

pub cut_short_refused : is_utf8 (0x61 ∷ 0xE2 ∷ 0x82 ∷ []) ≡ false
unfolding in_range after_first after_this after_byte may_end utf8_from
cut_short_refused = refl

-- ü, and the last scalar value
pub u_umlaut_accepted : is_utf8 (0xC3 ∷ 0xBC ∷ []) ≡ true
unfolding in_range after_first after_this after_byte may_end utf8_from
u_umlaut_accepted = refl

pub u_umlaut_encoded : encode 0xFC ≡ 0xC3 ∷ 0xBC ∷ []
unfolding encode
u_umlaut_encoded = refl

pub euro_encoded : encode 0x20AC ≡ 0xE2 ∷ 0x82 ∷ 0xAC ∷ []
unfolding encode
euro_encoded = refl

pub last_accepted : is_utf8 (0xF4 ∷ 0x8F ∷ 0xBF ∷ 0xBF ∷ []) ≡ true
unfolding in_range after_first after_this after_byte may_end utf8_from
last_accepted = refl

pub last_encoded : encode 0x10FFFF ≡ 0xF4 ∷ 0x8F ∷ 0xBF ∷ 0xBF ∷ []
unfolding encode
last_encoded = refl
