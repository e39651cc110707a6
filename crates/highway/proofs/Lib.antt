mod SettingsLaws
