-- The numbers that C hands over to the node's calls, and what the calls are given of them: a DLC and settings that fit are given as they
-- are, and all others as one that is refused.
use Rattle.std.specs.Prelude.{ℕ, suc, min, Bool, cond, ◌&&◌, leb}
use Rattle.wire.specs.declared.settings.Settings.{Settings}
use Rattle.wire.specs.Frames.{max_dlc}
use Rattle.wire.specs.Settings.{settings, of_plain}
use Rattle.firmware.specs.declared.judged.SettingsC.{SettingsC}

abbrev pub dlc_of : ℕ → ℕ
dlc_of dlc = min dlc (suc max_dlc)

-- the settings that these numbers are, of any size
abbrev pub in_numbers : SettingsC → Settings
in_numbers s = settings s.role s.class s.rd s.dc s.ra s.dd

-- role 2 is none
abbrev pub refused_settings : Settings
refused_settings = of_plain 2

-- each is a number of one byte, or of two
abbrev pub fit : SettingsC → Bool
fit s = leb s.role 255 && leb s.class 255 && leb s.rd 65535 && leb s.dc 65535 && leb s.ra 65535 && leb s.dd 65535

unfoldable pub settings_of : SettingsC → Settings
settings_of s = cond (fit s) (in_numbers s) refused_settings
