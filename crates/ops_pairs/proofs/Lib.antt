mod InsertLaws
