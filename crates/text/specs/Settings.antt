-- The settings that seven words say, one number each, of any size that its field holds.
use Rattle.std.specs.Prelude.{ℕ, Bool, ◌&&◌, List}
use Rattle.wire.specs.Settings.{settings}
use Rattle.wire.specs.declared.ids.Stream.{Stream}
use Rattle.wire.specs.declared.settings.Settings.{Settings}
use Rattle.text.specs.Numbers.{number_at}

-- what seven words say: where one of them is no number, ok is false
pub record SettingsAt : Type 0 where
  pub ok : Bool
  pub stream : Stream
  pub settings : Settings
  pub next : ℕ

unfoldable pub settings_at : List ℕ → ℕ → SettingsAt
settings_at line at =
    let stream = number_at 4294967295 line at in
    let role = number_at 255 line stream.next in
    let class = number_at 255 line role.next in
    let rd = number_at 65535 line class.next in
    let dc = number_at 65535 line rd.next in
    let ra = number_at 65535 line dc.next in
    let dd = number_at 65535 line ra.next in
    record {
      ok = stream.ok && role.ok && class.ok && rd.ok && dc.ok && ra.ok && dd.ok;
      stream = record { 0 = stream.value };
      settings = settings role.value class.value rd.value dc.value ra.value dd.value;
      next = dd.next;
    }
